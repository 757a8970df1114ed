use Rattle.std.proofs.Common.{◌≡◌, ℕ, true, List, [], ◌∷◌, ◌&&◌, ◌==◌, drop, ap, refl, sym, ◌∙◌}
use lib.Pointwise.{pointwise}
use Rattle.std.specs.Prelude.{bytes_eq}
use Rattle.std.proofs.lemmas.Bool.{and_parts, false≢true}
use Rattle.std.proofs.lemmas.Bool.Decides.{Decides-eqb}
use Rattle.std.proofs.lemmas.Slice.Eq.{bytes_eq-Decides}
use denote.Ref.{Bor}
use Rattle.bi_fdt.specs.NameParts.{NamePart, parts_of_slices}
use Rattle.bi_fdt.proofs.other_names.are_same_parts.Goals as goal

-- Parts that are equal one by one are the same.
same_parts : (parts others : List (ℕ × Bor (List ℕ)))
    → pointwise (λ part other. (part.0 == other.0) && bytes_eq part.1.now other.1.now) parts others ≡ true →
    parts_of_slices parts ≡ parts_of_slices others
same_parts [] [] equal = refl
same_parts [] (other ∷ others) equal = absurd (false≢true equal)
same_parts (part ∷ parts) [] equal = absurd (false≢true equal)
same_parts (part ∷ parts) (other ∷ others) equal =
    let both = and_parts ((part.0 == other.0) && bytes_eq part.1.now other.1.now) _ equal in
    let first = and_parts (part.0 == other.0) (bytes_eq part.1.now other.1.now) both.0 in
    ap (λ (p : NamePart). p ∷ parts_of_slices parts)
    (ap (λ tail. (tail, part.1.now)) ((Decides-eqb part.0 other.0).0 first.0)
    ∙ ap (λ bytes. (other.0, bytes)) ((bytes_eq-Decides part.1.now other.1.now).0 first.1))
    ∙ ap (λ later. (other.0, other.1.now) ∷ later) (same_parts parts others both.1)

same_first : {X : Type 0} {x y : X} {xs ys : List X} → x ∷ xs ≡ y ∷ ys → x ≡ y
same_first same = cc

-- The same parts are equal one by one.
equal_parts : (parts others : List (ℕ × Bor (List ℕ))) → parts_of_slices parts ≡ parts_of_slices others →
    pointwise (λ part other. (part.0 == other.0) && bytes_eq part.1.now other.1.now) parts others ≡ true
equal_parts [] [] same = refl
equal_parts [] (other ∷ others) same = absurd cc
equal_parts (part ∷ parts) [] same = absurd cc
equal_parts (part ∷ parts) (other ∷ others) same =
    let first = same_first same in
    ap (λ equal. equal && pointwise (λ part other. (part.0 == other.0) && bytes_eq part.1.now other.1.now) parts others)
    (ap (λ equal. equal && bytes_eq part.1.now other.1.now) ((Decides-eqb part.0 other.0).1 (ap (λ (p : NamePart). p.0) first))
    ∙ (bytes_eq-Decides part.1.now other.1.now).1 (ap (λ (p : NamePart). p.1) first))
    ∙ equal_parts parts others (ap (drop 1) same)

pub returns : goal.returns
returns c = (
  λ equal. same_parts c.args.parts.now c.args.others.now (sym c.eq.ensures ∙ equal),
  λ same. c.eq.ensures ∙ equal_parts c.args.parts.now c.args.others.now same,
)
