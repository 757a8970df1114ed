use Rattle.std.proofs.Common.{[], ◌∷◌, refl, lit≤}
use Rattle.bi_norm.specs.Cutting.{TooLong, TooShort}
use Rattle.bi_norm.proofs.known_files.cut_faults_are_known.Goals as goal

pub returns : goal.returns
returns c = record {
  first = TooLong [] 4 (1 ∷ []) refl (lit≤ tt) (lit≤ tt) refl;
  second = TooLong (5 ∷ []) 4 [] refl (lit≤ tt) (lit≤ tt) refl;
  at_end = TooLong (8 ∷ 0 ∷ []) 1 (0 ∷ []) refl (lit≤ tt) (lit≤ tt) refl;
  left = TooShort (lit≤ tt) refl;
  no_pieces = TooShort (lit≤ tt) refl;
}
