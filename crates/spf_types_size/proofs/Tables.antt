-- The sizes of the first functions, one after another.
use Rattle.std.proofs.Common.{◌≡◌, ℕ, ◌+◌, ◌<◌, ◌≤◌, suc, Some, List, [], ◌∷◌, ◌++◌, length, get_or, map, refl, sym, ap, ◌∙◌, subst, arith, length-append}
use Rattle.std.specs.Prelude.{slice_get}
use Rattle.std.specs.Option.{option_map}
use Rattle.std.proofs.lemmas.List.{length-map}
use Rattle.std.proofs.lemmas.Option.{slice_get-map}
use Rattle.spf_ast.specs.declared.syntax.Function as code
use Rattle.spf_ast.specs.View.{function, name}
use Rattle.spf_ast.specs.Size.{function_measure}
use Rattle.spf_types_size.specs.declared.size.Size.{Size}
use Rattle.spf_types_size.specs.Sizes.{capped, counts_before, all_counts, HasSize, IsTable}
use Rattle.spf_types_size.proofs.Lists.{get_is}
use Rattle.spf_types_size.proofs.Counted.{table_none, table_more}

-- the list has the sizes of the functions before an index
pub record AreCounted (raw : List code.Function) (sizes : List Size) (index : ℕ) : Type 0 where
  pub count : length sizes ≡ index
  pub table : IsTable (counts_before (map function raw) index) sizes

pub none_counted : (raw : List code.Function) → AreCounted raw [] 0
none_counted raw = record { count = refl; table = table_none (map function raw) }

pub function_there : (raw : List code.Function) (index : ℕ) (f : code.Function) → index < length raw → f ≡ get_or raw index f → slice_get (map function raw) index ≡ Some (function f)
function_there raw index f h is = slice_get-map function raw index ∙ ap (option_map function) (get_is raw index f h is)

-- one more function
pub one_counted : (raw : List code.Function) (sizes : List Size) (index : ℕ) (f : code.Function) (size now : Size) (later : List Size) → index < length raw → f ≡ get_or raw index f → AreCounted raw sizes index → HasSize (counts_before (map function raw) index) (λ m. function_measure m (function f)) size →
    now.nodes ≡ size.nodes → now.depth ≡ size.depth → now.slots ≡ capped (length f.slots.items + size.slots) → later ≡ sizes ++ now ∷ [] → AreCounted raw later (index + 1)
one_counted raw sizes index f size now later h is so has a b c push =
    let fs = map function raw in
    let more : suc index ≡ index + 1 = omega arith in
    let slots : now.slots ≡ capped (length (map name f.slots.items) + size.slots) = c ∙ ap (λ n. capped (n + size.slots)) (sym (length-map f.slots.items name)) in
    let count = so.count in
    let length_now : length (sizes ++ now ∷ []) ≡ index + 1 = simp length-append (omega (arith, count)) in
    record {
      count = ap length push ∙ length_now;
      table = subst (λ n. IsTable (counts_before fs n) later) more (subst (IsTable (counts_before fs (suc index))) (sym push) (table_more fs sizes index (function f) size now so.count (function_there raw index f h is) so.table has a b slots));
    }

-- all functions
pub all_counted : (raw : List code.Function) (sizes : List Size) (index : ℕ) → length raw ≤ index → index ≤ length raw → AreCounted raw sizes index → IsTable (all_counts (map function raw)) sizes
all_counted raw sizes index h k so =
    let same : index ≡ length (map function raw) = simp length-map (omega arith) in
    subst (λ n. IsTable (counts_before (map function raw) n) sizes) same so.table
