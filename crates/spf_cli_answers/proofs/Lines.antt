-- Lines of messages.
use Rattle.spf_ast.specs.declared.syntax.Array as code_array
use Rattle.spf_ast.specs.View.{name, array}
use Rattle.spf_ast.specs.Program.{size_of, extents_from}
use Rattle.std.proofs.Common.{◌≡◌, ◌++◌, ◌∷◌, [], ℕ, zero, suc, ◌+◌, ◌<◌, List, length, map, get_or, slice_index_or, take, drop, min, add-one, ℤ, arith, refl, sym, ap, ◌∙◌}
use Rattle.std.proofs.lemmas.List.{take_min, drop_min}
use Rattle.std.proofs.Math.Seq.{drop-cons}
use Rattle.spf_cli_answers.specs.Message.{array_line, array_lines}
use Rattle.std.specs.declared.vec.Vec.{Vec}
use Rattle.std.specs.declared.alloc.Global.{Global}
use Rattle.spf_cli_answers.specs.Answering.{lines_of}

-- one more message
pub lines_of-push : (messages : List (Vec ℕ Global)) (m : Vec ℕ Global) → lines_of (messages ++ m ∷ []) ≡ lines_of messages ++ m.items ∷ []
lines_of-push [] m = refl
lines_of-push (first ∷ rest) m = ap (λ ls. first.items ∷ ls) (lines_of-push rest m)

-- there are as many extents as arrays
pub extents-length : (len base : ℕ) (arrays : List code_array.Array) → length (extents_from len base (map array arrays)) ≡ length arrays
extents-length len base [] = refl
extents-length len base (a ∷ rest) = ap suc (extents-length len (base + size_of len (array a)) rest)

-- the size of an array is that of its extent
pub extent_size : (len base : ℕ) (arrays : List code_array.Array) (i : ℕ) (a : code_array.Array) → i < length arrays → a ≡ get_or arrays i a → (slice_index_or (extents_from len base (map array arrays)) i (0, 0)).1 ≡ size_of len (array a)
extent_size len base [] i a l e = absurd (omega (arith, l))
extent_size len base (x ∷ rest) zero a l e = ap (λ y. size_of len (array y)) (sym e)
extent_size len base (x ∷ rest) (suc i) a l e = extent_size len (base + size_of len (array x)) rest i a (omega (arith, l)) e

-- the line of one more array
pub array_more : (len : ℕ) (arrays : List code_array.Array) (i : ℕ) (a : code_array.Array) (size : ℕ) (rest own others : List ℤ) → i < length arrays → a ≡ get_or arrays i a → size ≡ size_of len (array a) → own ≡ take (min size (length rest)) rest → others ≡ drop (min size (length rest)) rest → array_line (name a.name) own ∷ array_lines len (map array (drop (i + 1) arrays)) others ≡ array_lines len (map array (drop i arrays)) rest
array_more len arrays i a size rest own others l e s o p =
    let mine : own ≡ take (size_of len (array a)) rest = o ∙ take_min size rest ∙ ap (λ n. take n rest) s in
    let theirs : others ≡ drop (size_of len (array a)) rest = p ∙ drop_min size rest ∙ ap (λ n. drop n rest) s in
    let here : drop i arrays ≡ a ∷ drop (i + 1) arrays = drop-cons arrays i a l ∙ (λ j. sym e j ∷ drop (sym (add-one i) j) arrays) in
    (λ j. array_line (name a.name) (mine j) ∷ array_lines len (map array (drop (i + 1) arrays)) (theirs j))
    ∙ ap (λ as_. array_lines len (map array as_) rest) (sym here)
