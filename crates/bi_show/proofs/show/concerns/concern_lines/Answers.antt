use Rattle.std.proofs.Common.{◌++◌, List, ℕ, ap, sym, subst, ◌∙◌}
use Rattle.std.specs.Prelude.{IsAscii}
use Rattle.bi_common.specs.declared.format.Format.TheVariants.{Lines}
use Rattle.bi_report.specs.CheckedFiles.{concerns_text}
use Rattle.bi_report.specs.CheckedImages.{concerns_left}
use Rattle.bi_report.specs.Checking.{allowed_under}
use Rattle.bi_report.specs.FoundConcerns.{concerns_in}
use Rattle.bi_report.specs.declared.check.Policy.{Policy}
use Rattle.bi_report.proofs.DefaultPolicy.{nothing_by_default}
use Rattle.bi_show.proofs.show.concerns.concern_lines.Goals as goal

pub string_of-requires : goal.string_of-requires
string_of-requires c =
    let text : Policy → List ℕ = (λ policy. concerns_text Lines (allowed_under policy) (concerns_in (concerns_left c.args.concerns))) in
    let is_none = nothing_by_default c.default.result c.default.ensures in
    subst IsAscii
    (sym (c.into_vec.ensures ∙ c.in-Ok.ensures.text ∙ ap (λ (bytes : List ℕ). bytes ++ text c.default.result) c.new-sink.ensures))
    (subst (λ policy. IsAscii (text policy)) (sym is_none) c.requires)
