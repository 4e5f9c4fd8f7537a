use Rattle.std.proofs.Common.{◌≡◌, ℕ, List, map, take}
use Rattle.std.specs.Option.{option_map}
use denote.Ref.{Bor}
use Rattle.spf_ast.specs.View.{array as seen_array}
use Rattle.spf_ast.specs.RawView.{raw_function}
use Rattle.spf_types_names.specs.Found.{found}
use Rattle.spf_types_names.specs.Globals.{either}
use Rattle.spf_types_names.specs.Names.{index_in}
use Rattle.spf_types_names.specs.declared.globals.Outer.TheVariants as outer
use Rattle.spf_types_names.proofs.globals.GlobalTable.make.Given as goal

abbrev pub invariant-loop-index : goal.invariant-loop-index
invariant-loop-index l =
    (q : Bor (List ℕ)) → found l.table q ≡ option_map outer.Array (index_in (take l.index (map (λ a. (seen_array a).name) l.arrays)) q.now)

abbrev pub invariant-loop-index-2 : goal.invariant-loop-index-2
invariant-loop-index-2 l =
    (q : Bor (List ℕ)) → found l.table q ≡ either (option_map outer.Array (index_in (map (λ a. (seen_array a).name) l.arrays) q.now)) (option_map outer.Function (index_in (take l.index (map (λ f. (raw_function f).name) l.functions)) q.now))
