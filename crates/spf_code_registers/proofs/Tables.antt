-- The rooms of the first functions, one after another.
use Rattle.std.proofs.Common.{◌≡◌, ℕ, ◌+◌, ◌<◌, ◌≤◌, suc, Some, List, [], ◌∷◌, ◌++◌, length, get_or, map, refl, sym, ap, ◌∙◌, subst, arith, length-append}
use Rattle.std.specs.Prelude.{slice_get}
use Rattle.std.specs.Option.{option_map}
use Rattle.std.proofs.lemmas.List.{length-map}
use Rattle.std.proofs.lemmas.Option.{slice_get-map}
use Rattle.spf_ast.specs.declared.syntax.Function as code
use Rattle.spf_ast.specs.View.{function}
use Rattle.spf_code_registers.specs.Registers.{function_needs, rooms_before}
use Rattle.spf_code_registers.specs.Counted.{capped, IsTable, all_rooms}
use Rattle.spf_code_registers.proofs.Lists.{get_is}
use Rattle.spf_code_registers.proofs.Counted.{table_none, table_more}

-- the list has the rooms of the functions before an index
pub record AreCounted (raw : List code.Function) (rooms : List ℕ) (index : ℕ) : Type 0 where
  pub count : length rooms ≡ index
  pub table : IsTable (rooms_before (map function raw) index) rooms

pub none_counted : (raw : List code.Function) → AreCounted raw [] 0
none_counted raw = record { count = refl; table = table_none (map function raw) }

function_there : (raw : List code.Function) (index : ℕ) (f : code.Function) → index < length raw → f ≡ get_or raw index f → slice_get (map function raw) index ≡ Some (function f)
function_there raw index f h is = slice_get-map function raw index ∙ ap (option_map function) (get_is raw index f h is)

-- one more function
pub one_counted : (raw : List code.Function) (rooms : List ℕ) (index : ℕ) (f : code.Function) (now : ℕ) (later : List ℕ) → index < length raw → f ≡ get_or raw index f → AreCounted raw rooms index → now ≡ capped (function_needs (rooms_before (map function raw) index) (function f)) → later ≡ rooms ++ now ∷ [] → AreCounted raw later (index + 1)
one_counted raw rooms index f now later h is so has push =
    let fs = map function raw in
    let more : suc index ≡ index + 1 = omega arith in
    let count = so.count in
    let length_now : length (rooms ++ now ∷ []) ≡ index + 1 = simp length-append (omega (arith, count)) in
    record {
      count = ap length push ∙ length_now;
      table = subst (λ n. IsTable (rooms_before fs n) later) more (subst (IsTable (rooms_before fs (suc index))) (sym push) (table_more fs rooms index (function f) now so.count (function_there raw index f h is) so.table has));
    }

-- all functions
pub all_counted : (raw : List code.Function) (rooms : List ℕ) (index : ℕ) → length raw ≤ index → index ≤ length raw → AreCounted raw rooms index → IsTable (all_rooms (map function raw)) rooms
all_counted raw rooms index h k so =
    let same : index ≡ length (map function raw) = simp length-map (omega arith) in
    subst (λ n. IsTable (rooms_before (map function raw) n) rooms) same so.table
