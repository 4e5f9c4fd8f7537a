-- When one range has all offsets of another.
use Rattle.std.specs.Prelude.{Bool, false, ◌==◌, ◌&&◌, int_le}
use Rattle.std.specs.Ordering.{int_eq}
use Rattle.spf_region.specs.declared.range.Range.{Range}
use Rattle.spf_region.specs.declared.range.Range.TheVariants.{Whole, Affine}

-- the second range has the first and the last offset of the first one
abbrev pub spans : Range → Range → Bool
spans (Whole a) s = false
spans (Affine a f l h) (Whole b) = false
spans (Affine a f l h) (Affine b g m i) = (a == b) && (int_eq f g && (int_le m l && int_le h i))
