-- The truth value says whether the chain has ended.
use Rattle.std.proofs.Common.{◌≡◌, ◌⊎◌, ℕ, zero, suc, Bool, true, false, ◌&&◌, ◌||◌, ◌==◌, List, [], ◌∷◌, refl, ap, inl, inr, Option, Some, None, slice_get}
use Rattle.std.proofs.lemmas.Bool.Decides.{Decides-eqb}
use Rattle.spf_ast.specs.declared.outcome.Trap.{Trap}
use Rattle.spf_ticket.specs.declared.ticket.Report.{Report}
use Rattle.spf_chain.specs.declared.block.Settled.{Settled}
use Rattle.spf_chain.specs.declared.block.Settled.TheVariants.{Carried, Trapped}
use Rattle.spf_chain.specs.Chains.{ChainValue, next_block, HasEnded}
use Rattle.spf_crew.specs.Endings.{all_home, is_trapped, has_ended}

both-true : (a b : Bool) → (a && b) ≡ true → (a ≡ true) × (b ≡ true)
both-true true true h = (refl, refl)
both-true true false h = absurd cc
both-true false b h = absurd cc

and-true : (a b : Bool) → a ≡ true → b ≡ true → (a && b) ≡ true
and-true true true p q = refl
and-true true false p q = absurd cc
and-true false b p q = absurd cc

either-true : (a b : Bool) → (a || b) ≡ true → (a ≡ true) ⊎ (b ≡ true)
either-true true b h = inl refl
either-true false true h = inr refl
either-true false false h = absurd cc

left-true : (a b : Bool) → a ≡ true → (a || b) ≡ true
left-true true b p = refl
left-true false b p = absurd cc

right-true : (a b : Bool) → b ≡ true → (a || b) ≡ true
right-true true b p = refl
right-true false true p = refl
right-true false false p = absurd cc

none-out : (homes : List (Option Report)) → all_home homes ≡ true → (n : ℕ) → slice_get homes n ≡ Some None → ⊥
none-out [] h n out = cc
none-out (None ∷ homes) h n out = cc
none-out (Some r ∷ homes) h zero out = some-not-none r out
  where
    some-not-none : (r : Report) → Some (Some r) ≡ Some None → ⊥
    some-not-none r e = cc
none-out (Some r ∷ homes) h (suc n) out = none-out homes h n out

all-in : (homes : List (Option Report)) → ((n : ℕ) → slice_get homes n ≡ Some None → ⊥) → all_home homes ≡ true
all-in [] h = refl
all-in (None ∷ homes) h = absurd (h zero refl)
all-in (Some r ∷ homes) h = all-in homes (λ n. h (suc n))

trapped-by : (s : Settled) → is_trapped s ≡ true → (t : Trap) × (s ≡ Trapped t)
trapped-by (Carried v) h = absurd cc
trapped-by (Trapped t) h = (t, refl)

pub ended-of : (c : ChainValue) → has_ended c ≡ true → HasEnded c
ended-of c h =
    let b = both-true (all_home c.homes) (next_block c == c.site.blocks || is_trapped c.settled) h in
    record {
      home = none-out c.homes b.0;
      done = elim (either-true (next_block c == c.site.blocks) (is_trapped c.settled) b.1) [
        | inl all ↦ inl ((Decides-eqb (next_block c) c.site.blocks).0 all)
        | inr t ↦ inr (let by = trapped-by c.settled t in record { trap = by.0; trapped = by.1 })
      ];
    }

pub ended-is : (c : ChainValue) → HasEnded c → has_ended c ≡ true
ended-is c h = and-true (all_home c.homes) (next_block c == c.site.blocks || is_trapped c.settled) (all-in c.homes h.home) (elim h.done [
  | inl all ↦ left-true (next_block c == c.site.blocks) (is_trapped c.settled) ((Decides-eqb (next_block c) c.site.blocks).1 all)
  | inr t ↦ right-true (next_block c == c.site.blocks) (is_trapped c.settled) (ap is_trapped t.trapped)
])
