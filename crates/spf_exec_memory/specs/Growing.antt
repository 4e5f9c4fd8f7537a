-- Outputs that grow: a form adds bytes to the output and takes none away.
use Rattle.std.specs.Prelude.{◌≡◌, ℕ, List, [], ◌∷◌, ◌++◌, ℤ}
use Rattle.spf_ast.specs.Event.{Event, Load, Store, Turn}
use Rattle.spf_ast.specs.Interaction.{Interaction, Answer, AskLoad, AskStore, AskTurn, Ending, Value, Trapped, Meaning, State}

-- the whole begins with these bytes
pub record IsPrefix (front whole : List ℕ) : Type 0 where
  pub back : List ℕ
  pub joined : whole ≡ front ++ back

-- the bytes with which a form ends
abbrev pub output_of : {A : Type 0} → Ending A → List ℕ
output_of (Value a s) = s.output
output_of (Trapped trap output) = output

-- each ending of a tree begins with these bytes
abbrev pub Extends : {A : Type 0} → List ℕ → Interaction (Ending A) → Type 0
Extends bytes (Answer ending) = IsPrefix bytes (output_of ending)
Extends bytes (AskLoad cell given) = (word : ℤ) → Extends bytes (given word)
Extends bytes (AskStore cell word then_) = Extends bytes then_
Extends bytes (AskTurn then_) = Extends bytes then_

-- a form ends with the bytes of the output before it, and perhaps more
pub record OnlyAdds {A : Type 0} (form : Meaning A) : Type 0 where
  pub adds : (s : State) → Extends s.output (form s)

-- The events are the first ones that the tree asks for, and each ending that is then left of it begins with these bytes.
abbrev pub IsUnfinished : {A : Type 0} → Interaction (Ending A) → List Event → List ℕ → Type 0
IsUnfinished tree [] bytes = Extends bytes tree
IsUnfinished (AskLoad cell given) (Load at word ∷ events) bytes = (cell ≡ at) × IsUnfinished (given word) events bytes
IsUnfinished (AskStore cell stored then_) (Store at word ∷ events) bytes = (cell ≡ at) × (stored ≡ word) × IsUnfinished then_ events bytes
IsUnfinished (AskTurn then_) (Turn number ∷ events) bytes = IsUnfinished then_ events bytes
IsUnfinished tree (event ∷ events) bytes = ⊥
