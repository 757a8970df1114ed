use Rattle.std.specs.List.{AllByRecursion}
use Rattle.std.proofs.Common.{◌≡◌, ◌⊎◌, zero, suc, Bool, true, false, List, [], ◌++◌, map, subst, ◌∷◌, Contains, filter, inl, inr, refl, ap}
use Rattle.std.proofs.Common.{◌∙◌, sym, arith, true≢false}

-- An element of a list is its first or is among the others, and what holds of each element of a list holds of each of its parts, of each
-- that passes a test, and of what is among them.

-- Nothing is among no elements.
pub Contains-none : {X : Type 0} (x : X) → Contains [] x → ⊥
Contains-none x (k, below, is) = omega arith

-- An element of a list is its first, or is among the others.
pub Contains-cases : {X : Type 0} (first : X) (others : List X) (x : X) → Contains (first ∷ others) x → (first ≡ x) ⊎ Contains others x
Contains-cases first others x (zero, below, is) = inl is
Contains-cases first others x (suc k, below, is) = inr (k, omega arith, is)

-- The first element is among the elements.
pub Contains-first : {X : Type 0} (first : X) (others : List X) → Contains (first ∷ others) first
Contains-first first others = (0, omega arith, refl)

-- What is among the others is among all.
pub Contains-others : {X : Type 0} (first : X) (others : List X) (x : X) → Contains others x → Contains (first ∷ others) x
Contains-others first others x (k, below, is) = (suc k, omega arith, is)

-- What is among elements and passes a test is among those that pass.
pub Contains-filter : {X : Type 0} (test : X → Bool) (xs : List X) (x : X) → test x ≡ true → Contains xs x → Contains (filter test xs) x
Contains-filter test [] x passes has = absurd (Contains-none x has)
Contains-filter {X = X} test (first ∷ others) x passes has =
    where_first (test first) refl (Contains-cases first others x has) (λ has. Contains-filter test others x passes has)
  where
    where_first : (b : Bool) → test first ≡ b → (first ≡ x) ⊎ Contains others x → (Contains others x → Contains (filter test others) x) →
        Contains (filter test (first ∷ others)) x
    where_first true is (inl same) among = rw is (rw (← same) (Contains-first first (filter test others)))
    where_first true is (inr has) among = rw is (Contains-others first (filter test others) x (among has))
    where_first false is (inl same) among = absurd (true≢false (sym passes ∙ ap test (sym same) ∙ is))
    where_first false is (inr has) among = rw is (among has)

-- What is among those that pass a test is among the elements.
pub Contains-from_filter : {X : Type 0} (test : X → Bool) (xs : List X) (x : X) → Contains (filter test xs) x → Contains xs x
Contains-from_filter test [] x has = has
Contains-from_filter {X = X} test (first ∷ others) x has =
    where_first (test first) refl has (λ has. Contains-from_filter test others x has)
  where
    where_first : (b : Bool) → test first ≡ b → Contains (filter test (first ∷ others)) x →
        (Contains (filter test others) x → Contains others x) → Contains (first ∷ others) x
    where_first true is has among = where_here (Contains-cases first (filter test others) x (rw is at has))
      where
        where_here : (first ≡ x) ⊎ Contains (filter test others) x → Contains (first ∷ others) x
        where_here (inl same) = rw (← same) (Contains-first first others)
        where_here (inr has) = Contains-others first others x (among has)
    where_first false is has among = Contains-others first others x (among (rw is at has))

-- What holds of each element holds of each that passes a test.
pub each-filter : {X : Type 0} (P : X → Type 0) (test : X → Bool) (xs : List X) → AllByRecursion P xs → AllByRecursion P (filter test xs)
each-filter P test [] each = each
each-filter {X = X} P test (first ∷ others) each = where_first (test first) refl (each-filter P test others each.1)
  where
    where_first : (b : Bool) → test first ≡ b → AllByRecursion P (filter test others) → AllByRecursion P (filter test (first ∷ others))
    where_first true is rest = rw is (each.0, rest)
    where_first false is rest = rw is rest

-- What holds of each element of two lists holds of each of both together.
pub each-append : {X : Type 0} (P : X → Type 0) (xs ys : List X) → AllByRecursion P xs → AllByRecursion P ys → AllByRecursion P (xs ++ ys)
each-append P [] ys front rest = rest
each-append P (first ∷ others) ys front rest = (front.0, each-append P others ys front.1 rest)

-- What holds of the image of each element holds of each image.
pub each-map : {X Y : Type 0} (P : Y → Type 0) (f : X → Y) (xs : List X) → AllByRecursion (λ x. P (f x)) xs → AllByRecursion P (map f xs)
each-map P f [] each = each
each-map P f (first ∷ others) each = (each.0, each-map P f others each.1)

-- What follows from what holds of each element holds of each.
pub each-weaker : {X : Type 0} (P Q : X → Type 0) → ((x : X) → P x → Q x) → (xs : List X) → AllByRecursion P xs → AllByRecursion Q xs
each-weaker P Q weaker [] each = each
each-weaker P Q weaker (first ∷ others) each = (weaker first each.0, each-weaker P Q weaker others each.1)

-- What holds of each element holds of what is among them.
pub each-contains : {X : Type 0} (P : X → Type 0) (xs : List X) (x : X) → AllByRecursion P xs → Contains xs x → P x
each-contains P [] x each has = absurd (Contains-none x has)
each-contains {X = X} P (first ∷ others) x each has =
    where_first (Contains-cases first others x has) (λ has. each-contains P others x each.1 has)
  where
    where_first : (first ≡ x) ⊎ Contains others x → (Contains others x → P x) → P x
    where_first (inl same) among = subst P same each.0
    where_first (inr has) among = among has

-- What holds of each element of two lists together holds of each of the first.
pub each-front : {X : Type 0} (P : X → Type 0) (xs ys : List X) → AllByRecursion P (xs ++ ys) → AllByRecursion P xs
each-front P [] ys each = tt
each-front P (first ∷ others) ys each = (each.0, each-front P others ys each.1)

-- And of each of the second.
pub each-back : {X : Type 0} (P : X → Type 0) (xs ys : List X) → AllByRecursion P (xs ++ ys) → AllByRecursion P ys
each-back P [] ys each = each
each-back P (first ∷ others) ys each = each-back P others ys each.1

-- What holds of each image holds of the image of each element.
pub each-map_back : {X Y : Type 0} (P : Y → Type 0) (f : X → Y) (xs : List X) → AllByRecursion P (map f xs) →
    AllByRecursion (λ x. P (f x)) xs
each-map_back P f [] each = each
each-map_back P f (first ∷ others) each = (each.0, each-map_back P f others each.1)
