-- The fields of the code's rows.
use Rattle.std.specs.Prelude.{◌≡◌, ◌≤◌, ℕ, ◌-◌, List, ◌++◌, length, take, drop, replicate, ℤ, pos}
use Rattle.std.proofs.Common.{sym, ap, ◌∙◌, arith}
use Rattle.std.proofs.lemmas.List.{take-append-drop, length-take-le}
use Rattle.spf_ast.specs.declared.row.Row.TheInside.{Inside}

-- the first `width` of the four parts are used, and the others are 0
pub record IsRow (parts : List ℤ) (width : ℕ) : Type 0 where
  pub some : 1 ≤ width
  pub few : width ≤ 4
  pub all : length parts ≡ 4
  pub rest : drop width parts ≡ replicate (4 - width) (pos 0)

-- a row, filled up with zeros
abbrev pub filled : List ℤ → List ℤ
filled row = row ++ replicate (4 - length row) (pos 0)

-- the fields of a row
abbrev pub fields_of : List ℤ → Inside
fields_of row = record { parts = filled row; width = length row }

-- a row gives its fields back
pub fields_back : (r : Inside) → IsRow r.parts r.width → fields_of (take r.width r.parts) ≡ r
fields_back r ok =
    let w : length (take r.width r.parts) ≡ r.width = length-take-le r.width r.parts (omega (arith, ok.few, ok.all)) in
    let same : filled (take r.width r.parts) ≡ r.parts =
    ap (λ n. take r.width r.parts ++ replicate (4 - n) (pos 0)) w ∙ ap (λ l. take r.width r.parts ++ l) (sym ok.rest) ∙ take-append-drop r.width r.parts in
    λ i. record { parts = same i; width = w i }
