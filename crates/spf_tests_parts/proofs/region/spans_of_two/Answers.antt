use Rattle.std.proofs.Common.{◌≡◌, ◌⊎◌, inl, inr, ◌<◌, ◌∙◌, ap, sym, true, ℕ, arith}
use Rattle.std.specs.Prelude.{not, ◌==◌, ◌&&◌}
use Rattle.spf_region.specs.declared.range.Range.{Range}
use Rattle.spf_region.specs.Ranges.{Arrays, has_array, array_of, array_joined, is_empty}
use Rattle.spf_region.proofs.Bools.{or-cases, and-right}
use Rattle.spf_tests_parts.proofs.region.spans_of_two.Goals as goal

abbrev Below : ℕ → Arrays → Type 0
Below n w = (a : ℕ) → w a ≡ true → a < n

added-below : (r : Range) (v w : Arrays) (n : ℕ) → v ≡ array_joined r w → array_of r < n → Below n w → Below n v
added-below r v w n e below rest a t = go (or-cases (not (is_empty r) && (array_of r == a)) (w a) (sym (ap (λ s. s a) e) ∙ t))
  where
    same : (x y : ℕ) → (x == y) ≡ true → x ≡ y
    same x y e = grind (arith, e)

    go : ((not (is_empty r) && (array_of r == a)) ≡ true) ⊎ (w a ≡ true) → a < n
    go (inl u) = let is = same (array_of r) a (and-right (not (is_empty r)) _ u) in omega arith
    go (inr u) = rest a u

pub spans_at-requires-clause-inside : goal.spans_at-requires-clause-inside
spans_at-requires-clause-inside c =
    let n = c.args.extents.now in
    added-below c.args.two (has_array c.add-2.new.self) (has_array c.add.new.self) _ c.in_ok-add-2.ensures.arrays c.requires.two
    (added-below c.args.one (has_array c.add.new.self) (has_array c.new-list.result) _ c.in_ok-add.ensures.arrays c.requires.one
    (λ a t. let e = rw c.new-list.ensures.empty at t in cc))
