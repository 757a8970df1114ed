use Rattle.std.proofs.Common.{◌≡◌, ◌++◌, ◌∷◌, ◌⊎◌, ℕ, List, [], Option, None, Some, IfNone, IfSome, inl, inr, sym, ◌∙◌, ap}
use Rattle.std.proofs.Common.{codes, drop, subst}
use Rattle.bootimg.specs.CommandLine.{IsExplained, NoneIs}
use Rattle.bootimg.specs.Explanations.{FollowsColon, IsAbout, IsLastSaid, topic_of}
use Rattle.bootimg.specs.declared.explanations.Topic.{Topic}

-- What a message is about, from what it says last.

-- Of two ends of a text that follow a colon they are the same, or one follows a colon in the other.
data Nested (one other : List ℕ) : Type 0 where
  Same : one ≡ other → Nested one other
  Within : FollowsColon one other → Nested one other
  Around : FollowsColon other one → Nested one other

nested : (before before' one other : List ℕ) → before ++ (codes ": " ++ one) ≡ before' ++ (codes ": " ++ other) → Nested one other
nested [] [] one other is = Same (ap (drop 2) is)
nested [] (byte ∷ []) one other is = elim (overlap is) [ ] where
  overlap : ¬ (codes ": " ++ one ≡ byte ∷ (codes ": " ++ other))
  overlap is = cc
nested [] (byte ∷ next ∷ before) one other is = Within (record { before = before; is = ap (drop 2) is })
nested (byte ∷ []) [] one other is = elim (overlap is) [ ] where
  overlap : ¬ (byte ∷ (codes ": " ++ one) ≡ codes ": " ++ other)
  overlap is = cc
nested (byte ∷ next ∷ before) [] one other is = Around (record { before = before; is = sym (ap (drop 2) is) })
nested (byte ∷ before) (byte' ∷ before') one other is = nested before before' one other (ap (drop 1) is)

one_is_last : (one other : List ℕ) → ((later : List ℕ) → ¬ (FollowsColon one later))
    → ((later : List ℕ) → ¬ (FollowsColon other later)) → Nested one other → one ≡ other
one_is_last one other last last' (Same is) = is
one_is_last one other last last' (Within follows) = elim (last other follows) [ ]
one_is_last one other last last' (Around follows) = elim (last' one follows) [ ]

-- One text is said last.
pub said_once : (text one other : List ℕ) → IsLastSaid text one → IsLastSaid text other → one ≡ other
said_once text one other said said' = by said.is_end said'.is_end where
  by : (text ≡ one) ⊎ FollowsColon text one → (text ≡ other) ⊎ FollowsColon text other → one ≡ other
  by (inl is) (inl is') = sym is ∙ is'
  by (inl is) (inr follows) = elim (said.is_last other (subst (λ text. FollowsColon text other) is follows)) [ ]
  by (inr follows) (inl is) = elim (said'.is_last one (subst (λ text. FollowsColon text one) is follows)) [ ]
  by (inr follows) (inr follows') =
      one_is_last one other said.is_last said'.is_last
      (nested follows.before follows'.before one other (sym follows.is ∙ follows'.is))

-- A text is about the topic that is found in what it says last, or about nothing.
pub about_found : (text said : List ℕ) (found : Option Topic) → IsLastSaid text said → found ≡ topic_of said → IfSome found (IsAbout text)
about_found text said None is_said is = tt
about_found text said (Some given) is_said is = record { said = said; is_said = is_said; topic = sym is }

no_topic : (given : Topic) → None ≡ Some given → ⊥
no_topic given is = cc

pub about_nothing : (text said : List ℕ) (found : Option Topic) → IsLastSaid text said → found ≡ topic_of said
    → IfNone found (NoneIs (IsAbout text))
about_nothing text said (Some given) is_said is = tt
about_nothing text said None is_said is =
    λ given about. no_topic given (is ∙ (ap topic_of (said_once text said about.said is_said about.is_said) ∙ about.topic))

-- ---- the argument of `explain`

pub topic_is_explained : (option : Option (List ℕ)) (argument : List ℕ) (given : Topic) → option ≡ Some argument → IsAbout argument given
    → IsExplained option (Some given)
topic_is_explained option argument given is about = subst (λ o. IsExplained o (Some given)) (sym is) about

no_topic_is_explained : (argument : List ℕ) → NoneIs (IsAbout argument) → NoneIs (IsExplained (Some argument))
no_topic_is_explained argument none None never = never
no_topic_is_explained argument none (Some given) about = none given about

pub topic_is_not_explained : (option : Option (List ℕ)) (argument : List ℕ) → option ≡ Some argument → NoneIs (IsAbout argument)
    → NoneIs (IsExplained option)
topic_is_not_explained option argument is none = subst (λ o. NoneIs (IsExplained o)) (sym is) (no_topic_is_explained argument none)
