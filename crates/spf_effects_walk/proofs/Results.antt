-- What holds where something was done, and what follows from it.
use Rattle.std.specs.Prelude.{Result, Ok, Err, OnOk, IfOk}

pub on_ok : {A E : Type 0} (result : Result A E) {P Q : Type 0} → OnOk result P → (P → Q) → OnOk result Q
on_ok (Ok u) p f = f p
on_ok (Err e) p f = tt

pub if_ok : {A E : Type 0} (result : Result A E) {P Q : A → Type 0} → IfOk result P → ((a : A) → P a → Q a) → IfOk result Q
if_ok (Ok a) p f = f a p
if_ok (Err e) p f = tt
