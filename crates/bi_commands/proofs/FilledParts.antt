use Rattle.std.proofs.Common.{◌≡◌, ◌↔◌, ◌+◌, ◌<◌, ◌≤◌, ℕ, List, [], ◌∷◌, ◌++◌, Bor, length, map, take, drop, get_or, refl, sym, ap, subst}
use Rattle.std.proofs.Common.{◌∙◌, rules}
use Rattle.std.proofs.Common.{arith, add-one, append-nil}
use Rattle.std.specs.List.{AllByRecursion, AllZip, concat, sum, sum_by, slice_range}
use Rattle.std.proofs.Math.Seq.{drop-cons}
use Rattle.std.proofs.lemmas.List.{length-map, map-append, take-append-drop, take_all}
use Rattle.std.proofs.lemmas.List.Sums.{sum_by-cons}
use Rattle.std.proofs.lemmas.Slice.Zip.{AllZip-long, all_zipped_more}
use Rattle.bi_base.specs.Cells.{AreBytes}
use Rattle.bi_base.specs.declared.fault.Cause.TheVariants.{BadPart}
use Rattle.bi_base.specs.Slices.{bytes_of}
use Rattle.bi_norm.specs.Cutting.{IsCut, IsCutFault, TooLong}
use Rattle.bi_norm.proofs.Pieces.{pieces_more}
use Rattle.bi_commands.specs.Parts.{IsFilled, HasGivenBytes, LengthsAreCut, content_of, input_length_of, lengths_of, parts_of_lengths}
use Rattle.bi_commands.specs.Parts.{pieces_among}
use Rattle.bi_commands.specs.declared.parts.Part.{Part}
use Rattle.bi_commands.specs.declared.parts.Part.TheVariants.{Bytes, Length}

-- Parts whose bytes are given or are pieces of an input have the contents that are cut from the input, and an input that is too short or
-- too long has a fault.

-- The lengths together are how many bytes of the input the parts are.
pub sum_of_lengths : (parts : List Part) → sum (lengths_of parts) ≡ sum_by input_length_of parts
sum_of_lengths [] = refl
sum_of_lengths (Bytes bytes ∷ parts) = search (rules, sum_by-cons, sum_of_lengths parts)
sum_of_lengths (Length size ∷ parts) = search (rules, sum_by-cons, sum_of_lengths parts)

-- All parts, once the index is past the last one.
pub sum_by_all : (parts : List Part) (i : ℕ) → length parts ≤ i → sum_by input_length_of (take i parts) ≡ sum_by input_length_of parts
sum_by_all parts i all = ap (sum_by input_length_of) (take_all i parts all)

lengths-append : (parts others : List Part) → lengths_of (parts ++ others) ≡ lengths_of parts ++ lengths_of others
lengths-append [] others = refl
lengths-append (Bytes bytes ∷ parts) others = lengths-append parts others
lengths-append (Length size ∷ parts) others = ap (λ l. size ∷ l) (lengths-append parts others)

-- The fault of the first part that does not fit, and of bytes that are left.
first_too_long : (input : List ℕ) (before : List Part) (part : Part) (later : List Part) → sum_by input_length_of before ≤ length input
    → length input < sum_by input_length_of before + input_length_of part
    → IsCutFault input (lengths_of (before ++ part ∷ later)) (record { cause = BadPart; offset = sum_by input_length_of before })
first_too_long input before (Bytes bytes) later fits longer = absurd (omega (arith, fits, longer))
first_too_long input before (Length size) later fits longer =
    let same = sum_of_lengths before in
    TooLong (lengths_of before) size (lengths_of later) (lengths-append before (Length size ∷ later)) (omega (arith, same, fits))
    (omega (arith, same, longer)) (ap (λ n. record { cause = BadPart; offset = n }) (sym same))

pub part_too_long : (input : List ℕ) (parts : List Part) (i : ℕ) (d : Part) → i < length parts
    → sum_by input_length_of (take i parts) ≤ length input
    → length input < sum_by input_length_of (take i parts) + input_length_of (get_or parts i d)
    → IsCutFault input (lengths_of parts) (record { cause = BadPart; offset = sum_by input_length_of (take i parts) })
part_too_long input parts i d within fits longer =
    let around : parts ≡ take i parts ++ (get_or parts i d ∷ drop (i + 1) parts) =
    sym (take-append-drop i parts) ∙ ap (λ l. take i parts ++ l) (rw add-one (drop-cons parts i d within)) in
    subst (λ all. IsCutFault input (lengths_of all)
    (record { cause = BadPart; offset = sum_by input_length_of (take i parts) })) (sym around)
    (first_too_long input (take i parts) (get_or parts i d) (drop (i + 1) parts) fits longer)

pub too_short : (input : List ℕ) (parts : List Part) → sum_by input_length_of parts < length input
    → IsCutFault input (lengths_of parts) (record { cause = BadPart; offset = sum_by input_length_of parts })
too_short input parts shorter = search (rules, sum_of_lengths)

-- The pieces among the contents of some parts and one more.
pieces_push : (parts : List Part) (contents : List (List ℕ)) (part : Part) (content : List ℕ) → AllZip HasGivenBytes parts contents
    → pieces_among (parts ++ part ∷ []) (contents ++ content ∷ []) ≡ pieces_among parts contents ++ pieces_among (part ∷ []) (content ∷ [])
pieces_push [] [] part content given = refl
pieces_push [] (c ∷ contents) part content given = absurd given
pieces_push (p ∷ parts) [] part content given = absurd given
pieces_push (Bytes bytes ∷ parts) (c ∷ contents) part content given = pieces_push parts contents part content given.1
pieces_push (Length size ∷ parts) (c ∷ contents) part content given = ap (λ l. c ∷ l) (pieces_push parts contents part content given.1)

-- Some parts have their contents, and one more has.
pub filled_next : (parts : List Part) (part : Part) (input : List ℕ) (start end : ℕ) (contents : List (List ℕ))
    → start + input_length_of part ≡ end → length (slice_range input start end) + start ≡ end
    → IsFilled parts (take start input) contents
    → IsFilled (parts ++ part ∷ []) (take end input) (contents ++ content_of part (slice_range input start end) ∷ [])
filled_next parts (Bytes bytes) input start end contents is size filled = record {
  given = all_zipped_more HasGivenBytes parts contents (Bytes bytes) bytes.now filled.given refl;
  cut =
      let lengths = lengths-append parts (Bytes bytes ∷ []) ∙ append-nil (lengths_of parts) in
      let pieces = pieces_push parts contents (Bytes bytes) bytes.now filled.given ∙ append-nil (pieces_among parts contents) in
      let same : start ≡ end = omega (arith, is) in
      record {
        have_lengths = ap (map length) pieces ∙ filled.cut.have_lengths ∙ sym lengths;
        are_whole = ap concat pieces ∙ filled.cut.are_whole ∙ ap (λ n. take n input) same;
      };
}
filled_next parts (Length bytes) input start end contents is size filled = record {
  given = all_zipped_more HasGivenBytes parts contents (Length bytes) (slice_range input start end) filled.given tt;
  cut =
      let piece = slice_range input start end in
      let before = pieces_among parts contents in
      let pieces = pieces_push parts contents (Length bytes) piece filled.given in
      let long : length piece ≡ bytes = omega (arith, is, size) in
      record {
        have_lengths =
            ap (map length) pieces
            ∙ map-append length before (piece ∷ [])
            ∙ ap (λ l. l ++ (length piece ∷ [])) filled.cut.have_lengths
            ∙ ap (λ n. lengths_of parts ++ (n ∷ [])) long
            ∙ sym (lengths-append parts (Length bytes ∷ []));
        are_whole = ap concat pieces ∙ pieces_more before input start end (omega (arith, is)) filled.cut.are_whole;
      };
}

-- There are as many contents as parts.
pub as_long : (parts : List Part) (input : List ℕ) (contents : List (Bor (List ℕ))) → IsFilled parts input (bytes_of contents)
    → length contents ≡ length parts
as_long parts input contents filled =
    sym (length-map contents (λ (slice : Bor (List ℕ)). slice.now)) ∙ AllZip-long HasGivenBytes parts (bytes_of contents) filled.given

-- Contents that are bytes, and one more.
pub bytes_next : (contents : List (List ℕ)) (content : List ℕ) → AllByRecursion AreBytes contents → AreBytes content
    → AllByRecursion AreBytes (contents ++ content ∷ [])
bytes_next [] content all one = (one, tt)
bytes_next (c ∷ contents) content all one = (all.0, bytes_next contents content all.1 one)

-- ---- parts that are all pieces of the input

lengths_back : (lengths : List ℕ) → lengths_of (parts_of_lengths lengths) ≡ lengths
lengths_back [] = refl
lengths_back (size ∷ lengths) = ap (λ l. size ∷ l) (lengths_back lengths)

pieces_back : (lengths : List ℕ) (contents : List (List ℕ)) → length contents ≡ length lengths
    → pieces_among (parts_of_lengths lengths) contents ≡ contents
pieces_back [] [] same = refl
pieces_back [] (c ∷ contents) same = absurd (omega (arith, same))
pieces_back (size ∷ lengths) [] same = absurd (omega (arith, same))
pieces_back (size ∷ lengths) (c ∷ contents) same = ap (λ l. c ∷ l) (pieces_back lengths contents (omega (arith, same)))

none_given : (lengths : List ℕ) (contents : List (List ℕ)) → length contents ≡ length lengths
    → AllZip HasGivenBytes (parts_of_lengths lengths) contents
none_given [] [] same = tt
none_given [] (c ∷ contents) same = absurd (omega (arith, same))
none_given (size ∷ lengths) [] same = absurd (omega (arith, same))
none_given (size ∷ lengths) (c ∷ contents) same = (tt, none_given lengths contents (omega (arith, same)))

as_many : (lengths : List ℕ) (contents : List (List ℕ)) → AllZip HasGivenBytes (parts_of_lengths lengths) contents
    → length contents ≡ length lengths
as_many [] [] given = refl
as_many [] (c ∷ contents) given = absurd given
as_many (size ∷ lengths) [] given = absurd given
as_many (size ∷ lengths) (c ∷ contents) given = let more = as_many lengths contents given.1 in omega (arith, more)

contents_are_cut : (lengths input : List ℕ) (contents : List (List ℕ)) →
    IsFilled (parts_of_lengths lengths) input contents ↔ IsCut input lengths contents
contents_are_cut lengths input contents = (
  λ filled.
      let same = as_many lengths contents filled.given in
      subst (IsCut input lengths) (pieces_back lengths contents same)
      (subst (λ l. IsCut input l (pieces_among (parts_of_lengths lengths) contents)) (lengths_back lengths) filled.cut),
  λ cut.
      let same : length contents ≡ length lengths = sym (length-map contents length) ∙ ap length cut.have_lengths in
      record {
        given = none_given lengths contents same;
        cut =
            subst (λ l. IsCut input l (pieces_among (parts_of_lengths lengths) contents)) (sym (lengths_back lengths))
            (subst (IsCut input lengths) (sym (pieces_back lengths contents same)) cut);
      },
)

pub lengths_are_cut : LengthsAreCut
lengths_are_cut = record { contents = contents_are_cut; lengths = lengths_back }
