-- What stands in a history.
use Rattle.std.proofs.Common.{◌≡◌, ◌<◌, ◌≤◌, ℕ, ◌-◌, zero, suc, List, [], ◌∷◌, ◌++◌, take, refl, sym, ap, ◌∙◌, subst, inl, inr, Some, ℤ, arith, slice_get}
use Rattle.std.specs.Prelude.{map}
use Rattle.std.proofs.lemmas.Option.{slice_get_within}
use Rattle.std.proofs.lemmas.List.{append-nil}
use Rattle.spf_chain.specs.declared.block.Settled.{Settled}
use Rattle.spf_chain.specs.declared.block.Settled.TheVariants as settled
use Rattle.spf_chain.specs.declared.block.ChainBlock.{ChainBlock}
use Rattle.spf_speculation_entry.specs.Entry.{plain_blocks}
use Rattle.spf_chain.specs.declared.chain.Chain.TheInside.{Inside}
use Rattle.spf_speculation_entry.specs.Sites.{entry_at, guess_at}
use Rattle.spf_chain.specs.Homes.{log_in}
use Rattle.spf_chain.specs.Standing.{validated_rows, HasValidated}
use Rattle.spf_chain.specs.Chains.{ChainValue, next_block, IsOut, WaitsFor, IsFiledAnswer, IsExact}
use Rattle.spf_chain.specs.declared.chain.Filed.{Filed}
use Rattle.spf_chain.specs.declared.chain.Filed.TheVariants.{Rerun, Waiting, Ended}
use Rattle.spf_chain.specs.Kept.{chain_value, IsKept}
use Rattle.spf_chain.specs.Histories.{IsHistory, HasItsHomes, AreExclusive}
use Rattle.spf_chain.proofs.Keeping.{both-at, out-above, next-is}
use Rattle.spf_chain.proofs.Raising.{not-both-settled}

map-get : (xs : List ChainBlock) (n : ℕ) (b : ChainBlock) → slice_get xs n ≡ Some b → slice_get (map (λ (x : ChainBlock). x.row) xs) n ≡ Some b.row
map-get [] n b at = absurd cc
map-get (x ∷ xs) zero b at = let e : x ≡ b = cc in ap (λ (z : ChainBlock). Some z.row) e
map-get (x ∷ xs) (suc n) b at = map-get xs n b at

first-get : (xs ys : List (List ℤ)) (n : ℕ) (v : List ℤ) → slice_get xs n ≡ Some v → slice_get (xs ++ ys) n ≡ Some v
first-get [] ys n v at = absurd cc
first-get (x ∷ xs) ys zero v at = at
first-get (x ∷ xs) ys (suc n) v at = first-get xs ys n v at

take-get : (k : ℕ) (xs : List ChainBlock) (n : ℕ) (b : ChainBlock) → slice_get (take k xs) n ≡ Some b → slice_get xs n ≡ Some b
take-get zero xs n b at = absurd cc
take-get (suc k) [] n b at = absurd cc
take-get (suc k) (x ∷ xs) zero b at = at
take-get (suc k) (x ∷ xs) (suc n) b at = take-get k xs n b at

-- the real rows of the validated blocks are the first ones of the plain run
plain-first : (a : Inside) (h : IsKept a) (s : Settled) → a.validation.settled ≡ s → (later : List (List ℤ)) × ((plain_blocks (entry_at a.site.value)).values ≡ validated_rows a.validation.count a.validation.blocks.items ++ later)
plain-first a h (settled.Carried v) is =
    let e = entry_at a.site.value in
    let vs = validated_rows a.validation.count a.validation.blocks.items in
    let f = subst (HasValidated e (guess_at a.site.value) (log_in a.homes.items) a.validation.count vs) is h.stands.stands in
    (_, (f.prefix.rest (a.site.value.blocks - a.validation.count) (omega (arith, h.within, h.stands.blocks))).all_values)
plain-first a h (settled.Trapped t) is =
    let e = entry_at a.site.value in
    let vs = validated_rows a.validation.count a.validation.blocks.items in
    let f = subst (HasValidated e (guess_at a.site.value) (log_in a.homes.items) a.validation.count vs) is h.stands.stands in
    ([], f.ends.plain_values ∙ sym (append-nil vs))

history-inside : (a : Inside) → IsKept a → IsHistory (chain_value a)
history-inside a h n b at =
    let l = h.listed n b (take-get a.validation.count a.validation.blocks.items n b at) in
    let p = plain-first a h a.validation.settled refl in record {
      block = l.block;
      guess = l.guess;
      real_value = ap (λ xs. slice_get xs n) p.1 ∙ first-get (validated_rows a.validation.count a.validation.blocks.items) p.0 n b.row (map-get (take a.validation.count a.validation.blocks.items) n b at);
    }

pub history-is : (a : Inside) (v : ChainValue) → IsKept a → chain_value a ≡ v → IsHistory v
history-is a v h is = subst IsHistory is (history-inside a h)

-- of blocks that are out, none is before the next one
out-from : (a : Inside) → IsKept a → (n : ℕ) → IsOut (chain_value a) n → next_block (chain_value a) ≤ n
out-from a h n out =
    let above = out-above (entry_at a.site.value) (guess_at a.site.value) a.homes.items a.validation n h.stands out in
    omega (arith, above, next-is a (chain_value a) h refl)

homes-inside : (a : Inside) → IsKept a → HasItsHomes (chain_value a)
homes-inside a h = record {
  size = h.stands.blocks;
  within = omega (arith, h.within, h.stands.blocks, next-is a (chain_value a) h refl);
  out = λ n out. out-from a h n out;
}

pub homes-are : (a : Inside) (v : ChainValue) → IsKept a → chain_value a ≡ v → HasItsHomes v
homes-are a v h is = subst HasItsHomes is (homes-inside a h)

not-before : (b d : ℕ) → (d < b → ⊥) → (b < d → ⊥) → b ≡ d
not-before b d h k = grind (arith, h, k)

next-lowest : (a : Inside) → IsKept a → (b d : ℕ) → IsOut (chain_value a) d → b ≡ next_block (chain_value a) → d < b → ⊥
next-lowest a h b d out is low = let above = out-from a h d out in omega (arith, above, is, low)

same-waiting : (a : Inside) → IsKept a → (b d : ℕ) → WaitsFor (chain_value a) b → WaitsFor (chain_value a) d → b ≡ d
same-waiting a h b d one other = not-before b d
    (λ low. elim one.awaited [ inl next ↦ next-lowest a h b d other.out next low | inr t ↦ t.1 d low other.out ])
    (λ low. elim other.awaited [ inl next ↦ next-lowest a h d b one.out next low | inr t ↦ t.1 b low one.out ])

pub exclusive : (a : Inside) (v : ChainValue) → IsKept a → chain_value a ≡ v → AreExclusive v
exclusive a v h is = subst AreExclusive is record {
  rerun_or_waiting = λ w r b needs waits. elim waits.awaited [
    | inl next ↦ both-at a.homes.items b r waits.out (ap (slice_get a.homes.items) next ∙ needs.home)
    | inr t ↦ not-both-settled a.validation.settled w t.0.trap needs.real_value t.0.trapped
  ];
  rerun_or_ended = λ w r needs ended. elim ended.done [
    | inl all ↦ let low = slice_get_within a.homes.items (next_block (chain_value a)) (Some r) needs.home in omega (arith, low, all, h.stands.blocks)
    | inr t ↦ not-both-settled a.validation.settled w t.trap needs.real_value t.trapped
  ];
  waiting_or_ended = λ b waits ended. ended.home b waits.out;
  one_waiting = λ b d one other. same-waiting a h b d one other;
}

-- ---- answers are exact

pub exact-of : (c d : ChainValue) (answer : Filed) → AreExclusive c → IsFiledAnswer c answer d → IsExact c answer
exact-of c d (Rerun t) ex is = record {
  rerun = (λ u. (is.0, is.1, is.2), λ u. (t, refl));
  waiting = λ block. (λ e. absurd cc, λ waits. absurd (ex.rerun_or_waiting is.0 is.1 block is.2 waits));
  ended = (λ e. absurd cc, λ ended. absurd (ex.rerun_or_ended is.0 is.1 is.2 ended));
}
exact-of c d (Waiting b) ex is = record {
  rerun = (λ u. absurd (let e = u.1 in cc), λ needs. absurd (ex.rerun_or_waiting needs.0 needs.1 b needs.2 is.0));
  waiting = λ block. (λ e. let same : b ≡ block = cc in subst (WaitsFor c) same is.0, λ waits. ap (λ x. Waiting x) (ex.one_waiting b block is.0 waits));
  ended = (λ e. absurd cc, λ ended. absurd (ex.waiting_or_ended b is.0 ended));
}
exact-of c d Ended ex is = record {
  rerun = (λ u. absurd (let e = u.1 in cc), λ needs. absurd (ex.rerun_or_ended needs.0 needs.1 needs.2 is.0));
  waiting = λ block. (λ e. absurd cc, λ waits. absurd (ex.waiting_or_ended block waits is.0));
  ended = (λ e. is.0, λ ended. refl);
}
