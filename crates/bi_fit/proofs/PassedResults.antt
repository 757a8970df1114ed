use Rattle.std.proofs.Common.{◌≡◌, subst, Result, Ok, IfOk}

-- What is known of a result is known of one that passes it on.

-- What is known of its value is known of the value that is passed on.
pub value_passed_on : {T E : Type 0} (outcome : Result T E) (value : T) (P : T → Type 0) → outcome ≡ Ok value →
    IfOk outcome P → P value
value_passed_on outcome value P same holds = subst (λ outcome. IfOk outcome P) same holds
