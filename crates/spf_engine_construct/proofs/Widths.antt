-- The width of a construct's guesses.
use Rattle.std.proofs.Common.{◌≡◌, ℕ, length, sym, subst}
use Rattle.std.specs.Prelude.{Some, slice_get}
use Rattle.spf_ast.specs.Carried.{IsWidth}
use Rattle.spf_ast.specs.Construct.{Construct, fold, pair, constructs_in, predictors_of}
use Rattle.spf_ast.specs.GoingOn.{IsOrderly}
use Rattle.spf_ast.specs.Syntax.{Program}
use Rattle.spf_exec.specs.Sources.{ConstructIsOrderly}
use Rattle.spf_exec.proofs.Sources.{orderly_construct}

width-of : (c : Construct) → ConstructIsOrderly c → IsWidth (length (predictors_of c))
width-of (fold line head body) o = subst IsWidth (sym o.0.predict) o.0.width
width-of (pair line head producer consumer) o = subst IsWidth (sym o.0.predict) o.0.width

-- a guess of a top construct of an orderly program has one to four parts
pub guess-width : (p : Program) (index : ℕ) (c : Construct) → IsOrderly p → slice_get (constructs_in p.main) index ≡ Some c → IsWidth (length (predictors_of c))
guess-width p index c o at = width-of c (orderly_construct p.main index c at o.main)
