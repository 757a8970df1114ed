use Rattle.bi_edit.proofs.ChosenForms.{kept_form}
use Rattle.bi_edit.proofs.form_choice.chosen_form.Goals as goal

pub returns-in-Keep : goal.returns-in-Keep
returns-in-Keep c =
    kept_form c.args.fit.now c.images.result.now c.images.ensures c.args.choice c.in-Keep.is c.form_of_images.result
    c.form_of_images.ensures
