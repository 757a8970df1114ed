use Rattle.bi_norm.proofs.fit_building.images.texts_of.Goals as goal

pub returns-in-None : goal.returns-in-None
returns-in-None c = rw c.in-None.is c.names_of_codes.ensures
