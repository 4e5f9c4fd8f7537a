use Rattle.std.proofs.Common.{◌≡◌, ◌≢◌, ◌∙◌, ◌<◌, arith, sym, ap, length, refl, inl, inr, subst, Some, None, slice_get}
use Rattle.std.specs.Prelude.{IsTrue, not}
use Rattle.std.proofs.lemmas.Option.{slice_get_read}
use Rattle.spf_ast.specs.Carried.{Carried, same_carried}
use Rattle.spf_speculation_entry.proofs.Rows.{Decides-same_carried}
use Rattle.spf_chain.proofs.Lists.{true-or-false, not-both}
use Rattle.spf_chain.proofs.Raising.{next-raise}
use Rattle.spf_chain.proofs.chain.Chain.is_next_mispredicted.Goals as goal

differ : (x y : Carried) → IsTrue (not (same_carried x y)) → x ≢ y
differ x y t e = not-both (not (same_carried x y)) t (ap not ((Decides-same_carried x y).1 e))

differs : (x y : Carried) → x ≢ y → IsTrue (not (same_carried x y))
differs x y ne = elim (true-or-false (same_carried x y)) [ inl t ↦ absurd (ne ((Decides-same_carried x y).0 t)) | inr f ↦ ap not f ]

pub returns : goal.returns
returns c =
    let a = c.self.inside in
    let h = c.self.invariant in
    let b = c.index.result.now in
    let low : a.validation.count < length a.homes.items = omega (arith, c.if-next_block-len.false, c.len.ensures, a.homes.ok.0, h.within) in
    let out : slice_get a.homes.items a.validation.count ≡ Some None = ap (λ l. slice_get l a.validation.count) (sym c.deref.ensures.value) ∙ c.is_out.ensures.0 c.if-not-is_out.false in
    let at : slice_get a.validation.blocks.items a.validation.count ≡ Some b = slice_get_read a.validation.blocks.items (length a.validation.blocks.items) a.validation.count b refl (omega (arith, low, h.size)) c.index.ensures in
    let f = next-raise a c.args.self.now c.args.real b h c.self.view_is c.requires c.if-self.false out at in
    let same : c.is_same.result ≡ same_carried b.row c.args.real = c.is_same.ensures in
    (λ t. f.0 (differ b.row c.args.real (subst (λ x. IsTrue (not x)) same t)), λ r. subst (λ x. IsTrue (not x)) (sym same) (differs b.row c.args.real (f.1 r)))
