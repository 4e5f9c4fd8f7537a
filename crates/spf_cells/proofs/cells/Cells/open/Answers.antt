use Rattle.std.proofs.Common.{◌≡◌, ℕ, ◌+◌, length, ap, sym, ◌∙◌, List, [], subst, arith}
use Rattle.atomic_table.specs.Table.{opening}
use Rattle.spf_cells.specs.declared.view.Setting.{Setting}
use Rattle.spf_cells.specs.Cells.{AreCells}
use Rattle.spf_cells.specs.Rule.{IsConsistentTable, first}
use Rattle.spf_cells.specs.Made.{setting, first_words}
use Rattle.spf_cells.proofs.Plans.{length-cells_with_blocks}
use Rattle.spf_cells.proofs.Opening.{opens, new_warden_ok, length-first_words}
use Rattle.spf_cells.proofs.cells.Cells.open.Goals as goal

pub words_of-requires : goal.words_of-requires
words_of-requires g c = c.requires.inside

pub of_words-requires : goal.of_words-requires
of_words-requires g c =
    let k : Setting = setting c.args.plan.now c.args.entry.now g.raisable in
    let words : c.as_slice.result.now ≡ first_words k.plan k.entry = c.as_slice.ensures.value ∙ c.in_ok-words.ensures in
    let value : c.key_of_setting-key.result.value ≡ k = c.key_of_setting-key.ensures in
    let P : Setting × List ℕ → Type 0 = λ x. IsConsistentTable x.0 (opening x.1 [] (first x.0)) in
    subst P (λ t. (sym value t, sym words t)) (opens k c.requires c.in_range.ensures)

pub invariant_of-result-2 : goal.invariant_of-result-2
invariant_of-result-2 g c =
    let k : Setting = setting c.args.plan.now c.args.entry.now g.raisable in
    let words : c.as_slice.result.now ≡ first_words k.plan k.entry = c.as_slice.ensures.value ∙ c.in_ok-words.ensures in
    let small = c.as_slice.type_inv in
    let made = c.in_ok-table.ensures in
    let long = length-first_words k.plan k.entry in
    let e = ap length words in
    let count : c.in_ok-table.seat.table_id.words ≡ length c.as_slice.result.now = ap (λ z. z.words) made.2 ∙ made.0 in
    new_warden_ok _ k (made.4 ∙ ap (λ y. (first y, [])) c.key_of_setting-key.ensures) (count ∙ (e ∙ long)) (omega arith)

pub returns-clause-small : goal.returns-clause-small
returns-clause-small g c =
    let k : Setting = setting c.args.plan.now c.args.entry.now g.raisable in
    let words : c.as_slice.result.now ≡ first_words k.plan k.entry = c.as_slice.ensures.value ∙ c.in_ok-words.ensures in
    let small = c.as_slice.type_inv in
    let e = ap length words in
    omega (arith, length-first_words k.plan k.entry, length-cells_with_blocks k.plan)

pub invariant_of-result : goal.invariant_of-result
invariant_of-result g c =
    let k : Setting = setting c.args.plan.now c.args.entry.now g.raisable in
    let made = c.in_ok-table.ensures in
    let value : k ≡ c.in_ok-table.table.shared.key.value = sym (ap (λ t. t.value) made.5 ∙ c.key_of_setting-key.ensures) in
    let words : c.as_slice.result.now ≡ first_words k.plan k.entry = c.as_slice.ensures.value ∙ c.in_ok-words.ensures in
    let small = c.as_slice.type_inv in
    let e = ap length words in
    let count : c.in_ok-table.table.shared.table_id.words ≡ length c.as_slice.result.now = made.0 in
    subst (λ (z : Setting). AreCells (record { table = c.in_ok-table.table.shared.table_id; setting = z })) value record {
      disjoint = c.requires;
      words = count ∙ (e ∙ (length-first_words k.plan k.entry ∙ ap (λ n. length k.plan + n) (length-cells_with_blocks k.plan)));
      small = omega arith;
    }
