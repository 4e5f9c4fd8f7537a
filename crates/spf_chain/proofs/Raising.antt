-- Flags are raised one by one.
use Rattle.std.proofs.Common.{◌≡◌, ◌≢◌, ◌⊎◌, ℕ, ◌<◌, ◌≤◌, zero, suc, List, [], ◌∷◌, length, set, refl, sym, ap, ◌∙◌, subst, inl, inr, arith}
use Rattle.std.specs.Prelude.{slice_index, max}
use Rattle.std.proofs.lemmas.List.{length-set}
use Rattle.spf_cells.specs.Values.{WardenValue, CellsValue, IsWardenOf, with_flag}
use Rattle.std.specs.Prelude.{Some, None, ℤ, slice_get}
use Rattle.std.specs.List.{Contains}
use Rattle.std.proofs.lemmas.Option.{slice_get_within}
use Rattle.spf_ast.specs.declared.outcome.Trap.{Trap}
use Rattle.spf_chain.specs.declared.block.Settled.{Settled}
use Rattle.spf_chain.specs.declared.block.Settled.TheVariants.{Carried, Trapped}
use Rattle.spf_speculation_entry.specs.Entry.{begins_at}
use Rattle.spf_speculation_entry.specs.Sites.{entry_at, guess_at}
use Rattle.std.specs.Prelude.{false}
use Rattle.spf_speculation.specs.Prefixes.{PrefixesHaveRealValues}
use Rattle.spf_chain.specs.declared.block.ChainBlock.{ChainBlock}
use Rattle.spf_chain.specs.Sites.{IsGround}
use Rattle.spf_chain.specs.Homes.{log_in, AreHomes}
use Rattle.spf_chain.specs.Standing.{validated_rows, TrappedAt, HasValidated}
use Rattle.spf_chain.specs.declared.chain.Chain.TheInside.{Inside}
use Rattle.spf_chain.specs.Kept.{chain_value, cells_inside, IsKept}
use Rattle.spf_chain.proofs.Keeping.{next-value, out-above, next-is}
use Rattle.spf_chain.proofs.Lists.{some-same, not-both}
use Rattle.spf_chain.specs.Chains.{ChainValue, with_flags, HasRaised, IsToRaise, HasTrapped, next_block, Raises}

pub none-raised : (P : ℕ → Type 0) (w : WardenValue) → ((n : ℕ) → P n → ⊥) → HasRaised P w w
none-raised P w none = record { flags = w.view.flags; same = refl; size = refl; raised = λ n low p. absurd (none n p); kept = λ n not. refl }

other-index : (xs : List ℕ) (i n v : ℕ) → n ≢ i → slice_index (set xs i v) n ≡ slice_index xs n
other-index [] i n v h = refl
other-index (x ∷ xs) zero zero v h = absurd (h refl)
other-index (x ∷ xs) zero (suc n) v h = refl
other-index (x ∷ xs) (suc i) zero v h = refl
other-index (x ∷ xs) (suc i) (suc n) v h = other-index xs i n v (λ e. h (ap suc e))

same-index : (xs : List ℕ) (i v : ℕ) → i < length xs → slice_index (set xs i v) i ≡ v
same-index [] i v h = absurd (omega (arith, h))
same-index (x ∷ xs) zero v h = refl
same-index (x ∷ xs) (suc i) v h = same-index xs i v (omega (arith, h))

same-or-not : (n i : ℕ) → (n ≡ i) ⊎ (n ≢ i)
same-or-not n i = grind arith

pub raised-more : (P Q : ℕ → Type 0) (w x y : WardenValue) (i : ℕ) → HasRaised P w x → y ≡ with_flag x i 1 → i < length w.view.flags → ((n : ℕ) → Q n → n ≢ i → P n) → ((n : ℕ) → P n → Q n) → Q i → (P i → ⊥) → HasRaised Q w y
raised-more P Q w x y i g is low back on here not =
    let fl = g.flags in
    let v : ℕ = max (slice_index fl i) 1 in
    let flags : x.view.flags ≡ fl = ap (λ (z : WardenValue). z.view.flags) g.same in
    let y-is : y ≡ with_flags w (set fl i v) = is ∙ ap (λ (z : WardenValue). with_flag z i 1) g.same in
    record {
      flags = set fl i v;
      same = y-is;
      size = length-set fl i v ∙ g.size;
      raised = λ n small q. elim (same-or-not n i) [
        | inl e ↦ ap (slice_index (set fl i v)) e ∙ same-index fl i v (omega (arith, low, g.size)) ∙ ap (λ z. max z 1) (g.kept i not ∙ ap (slice_index w.view.flags) (sym e))
        | inr ne ↦ other-index fl i n v ne ∙ g.raised n (omega (arith, small, length-set fl i v)) (back n q ne)
      ];
      kept = λ n off. other-index fl i n v (λ e. off (subst Q (sym e) here)) ∙ g.kept n (λ p. off (on n p));
    }

pub raised-same : (P Q : ℕ → Type 0) (w x : WardenValue) → HasRaised P w x → ((n : ℕ) → Q n → P n) → ((n : ℕ) → P n → Q n) → HasRaised Q w x
raised-same P Q w x g back on = record { flags = g.flags; same = g.same; size = g.size; raised = λ n low q. g.raised n low (back n q); kept = λ n off. g.kept n (λ p. off (on n p)) }

pub warden-of : (P : ℕ → Type 0) (c : CellsValue) (w x : WardenValue) → IsWardenOf c w → HasRaised P w x → IsWardenOf c x
warden-of P c w x own g = (ap (λ (z : WardenValue). z.table) g.same ∙ own.0, ap (λ (z : WardenValue). z.setting) g.same ∙ own.1)

-- ---- of a chain

-- after a trap the plain run reaches no block that isn't validated
pub values-end : (xs : List (List ℤ)) (n : ℕ) (v : List ℤ) → length xs ≤ n → slice_get xs n ≢ Some v
values-end xs n v past at = let low = slice_get_within xs n v at in omega (arith, low, past)

pub trapped-raisable : (a : Inside) (t : Trap) → IsKept a → a.validation.settled ≡ Trapped t → (n : ℕ) → a.validation.count ≤ n → n < length a.homes.items → Contains a.warden.setting.raisable n
trapped-raisable a t h is n above low =
    let e = entry_at a.site.value in
    let vs = validated_rows a.validation.count a.validation.blocks.items in
    let at : TrappedAt e (guess_at a.site.value) (log_in a.homes.items) a.validation.count vs t = subst (HasValidated e (guess_at a.site.value) (log_in a.homes.items) a.validation.count vs) is h.stands.stands in
    h.ground.raisable.all n (omega (arith, low, h.stands.blocks))
    (λ there. values-end vs n (begins_at e (guess_at a.site.value) n) (omega (arith, at.count, above)) (ap (λ l. slice_get l n) (sym at.ends.plain_values) ∙ there))

next-raisable : PrefixesHaveRealValues → (a : Inside) (v : List ℤ) → IsKept a → a.validation.settled ≡ Carried v → a.validation.count < length a.homes.items → begins_at (entry_at a.site.value) (guess_at a.site.value) a.validation.count ≢ v → Contains a.warden.setting.raisable a.validation.count
next-raisable law a v h is low wrong =
    h.ground.raisable.all a.validation.count (omega (arith, low, h.stands.blocks))
    (λ there. wrong (some-same _ v (sym there ∙ next-value law a h v is low)))

pub not-both-settled : (s : Settled) (v : List ℤ) (t : Trap) → s ≡ Carried v → s ≡ Trapped t → ⊥
not-both-settled s v t c d = let e : Carried v ≡ Trapped t = sym c ∙ d in absurd cc

pub kept-with : (a : Inside) (w : WardenValue) → IsKept a → w.table ≡ a.warden.table → w.setting ≡ a.warden.setting → w.view.taken ≡ a.warden.view.taken → length w.view.flags ≡ length a.warden.view.flags → IsKept (record a { warden = w })
kept-with a w h table setting taken size =
    let same : (let c : CellsValue = record { table = w.table; setting = w.setting } in c) ≡ cells_inside a = λ t. record { table = table t; setting = setting t } in
    record {
      ground = subst (IsGround a.site.value) (sym same) h.ground;
      flags = subst (λ n. length a.homes.items ≤ n) (sym size) h.flags;
      none_taken = taken ∙ h.none_taken;
      room = h.room;
      size = h.size;
      within = h.within;
      homes = subst (λ k. AreHomes (entry_at a.site.value) (guess_at a.site.value) k a.homes.items) (sym same) h.homes;
      stands = h.stands;
      listed = h.listed;
      second = h.second;
    }

pub kept-raised : (P : ℕ → Type 0) (a : Inside) (w : WardenValue) → IsKept a → HasRaised P a.warden w → IsKept (record a { warden = w })
kept-raised P a w h g = kept-with a w h (ap (λ (z : WardenValue). z.table) g.same) (ap (λ (z : WardenValue). z.setting) g.same) (ap (λ (z : WardenValue). z.view.taken) g.same) (ap (λ (z : WardenValue). length z.view.flags) g.same ∙ g.size)

-- ---- which flags

-- the next block, where it is out with its first attempt
pub next-raise : (a : Inside) (v : ChainValue) (real : List ℤ) (b : ChainBlock) → IsKept a → chain_value a ≡ v → v.settled ≡ Carried real → a.again ≡ false → slice_get a.homes.items a.validation.count ≡ Some None
    → slice_get a.validation.blocks.items a.validation.count ≡ Some b → (b.row ≢ real → IsToRaise v (next_block v)) × (IsToRaise v (next_block v) → b.row ≢ real)
next-raise a v real b h is carried off out at =
    let first : b.row ≡ begins_at (entry_at a.site.value) (guess_at a.site.value) a.validation.count = (h.listed a.validation.count b at).first (omega arith) in
    let f : next_block (chain_value a) ≡ a.validation.count = next-is a (chain_value a) h refl in
    let mine : a.validation.settled ≡ Carried real = ap (λ (w : ChainValue). w.settled) is ∙ carried in (
      λ ne. subst (λ (w : ChainValue). IsToRaise w (next_block w)) is record {
        out = record { out = ap (slice_get a.homes.items) f ∙ out; first = λ on. absurd (not-both a.again on off) };
        why = inl (refl, real, mine, λ e. ne (first ∙ ap (begins_at (entry_at a.site.value) (guess_at a.site.value)) (sym f) ∙ e));
      },
      λ r. let q : IsToRaise (chain_value a) (next_block (chain_value a)) = subst (λ (w : ChainValue). IsToRaise w (next_block w)) (sym is) r in
          elim q.why [
            | inl w ↦ λ e. w.3 (ap (begins_at (entry_at a.site.value) (guess_at a.site.value)) f ∙ sym first ∙ e ∙ same-carried real w.1 (sym mine ∙ w.2))
            | inr t ↦ absurd (not-both-settled a.validation.settled real t.trap mine t.trapped)
          ],
    )
  where
    same-carried : (x y : List ℤ) → Carried x ≡ Carried y → x ≡ y
    same-carried x y e = cc

-- only the flag of the next block is, where its real row is known
only-next : (v : ChainValue) (real : List ℤ) (n : ℕ) → v.settled ≡ Carried real → IsToRaise v n → n ≡ next_block v
only-next v real n carried q = elim q.why [
  | inl w ↦ w.0
  | inr t ↦ absurd (not-both-settled v.settled real t.trap carried t.trapped)
]

pub to-raise-raisable : PrefixesHaveRealValues → (a : Inside) (v : ChainValue) (real : List ℤ) → IsKept a → chain_value a ≡ v → v.settled ≡ Carried real → IsToRaise v (next_block v) → Contains a.warden.setting.raisable a.validation.count
to-raise-raisable law a v real h is carried r =
    let q : IsToRaise (chain_value a) (next_block (chain_value a)) = subst (λ (w : ChainValue). IsToRaise w (next_block w)) (sym is) r in
    let f : next_block (chain_value a) ≡ a.validation.count = next-is a (chain_value a) h refl in
    let low = slice_get_within a.homes.items (next_block (chain_value a)) None q.out.out in
    elim q.why [
      | inl w ↦ next-raisable law a w.1 h w.2 (omega (arith, low, f)) (λ e. w.3 (ap (begins_at (entry_at a.site.value) (guess_at a.site.value)) f ∙ e))
      | inr t ↦ absurd (not-both-settled a.validation.settled real t.trap (ap (λ (w : ChainValue). w.settled) is ∙ carried) t.trapped)
    ]

pub to-raise-inside : (a : Inside) (v : ChainValue) → IsKept a → chain_value a ≡ v → IsToRaise v (next_block v) → a.validation.count < length a.warden.setting.plan
to-raise-inside a v h is q =
    let low = slice_get_within v.homes (next_block v) None q.out.out in
    let size : length v.homes ≡ length a.homes.items = ap (λ (x : ChainValue). length x.homes) (sym is) in
    let f = next-is a v h is in
    let b = h.stands.blocks in
    let p = h.ground.made.blocks in
    omega (arith, low, f, size, b, p)

pub next-raised : (a : Inside) (v : ChainValue) (real : List ℤ) (w : WardenValue) → IsKept a → chain_value a ≡ v → v.settled ≡ Carried real → IsToRaise v (next_block v) → w ≡ with_flag a.warden a.validation.count 1
    → Raises v (record (chain_value a) { warden = w })
next-raised a v real w h is carried r one =
    let f : next_block v ≡ a.validation.count = next-is a v h is in
    let low = slice_get_within v.homes (next_block v) None r.out.out in
    let size : length v.homes ≡ length a.homes.items = ap (λ (x : ChainValue). length x.homes) (sym is) in
    record {
      warden = w;
      same = ap (λ (x : ChainValue). let y : ChainValue = record x { warden = w } in y) is;
      raised = subst (λ (x : WardenValue). HasRaised (IsToRaise v) x w) (ap (λ (x : ChainValue). x.warden) is)
          (raised-more (λ n. ⊥) (IsToRaise v) a.warden a.warden w a.validation.count (none-raised (λ n. ⊥) a.warden (λ n p. p)) one
          (omega (arith, low, f, size, h.flags))
          (λ n q ne. ne (only-next v real n carried q ∙ f)) (λ n p. absurd p) (subst (IsToRaise v) f r) (λ p. p));
    }

pub none-next : (a : Inside) (v : ChainValue) (real : List ℤ) → chain_value a ≡ v → v.settled ≡ Carried real → (IsToRaise v (next_block v) → ⊥) → Raises v v
none-next a v real is carried not = record {
  warden = v.warden;
  same = refl;
  raised = none-raised (IsToRaise v) v.warden (λ n q. not (subst (IsToRaise v) (only-next v real n carried q) q));
}

pub rest-raised : (a : Inside) (v : ChainValue) (w : WardenValue) → IsKept a → chain_value a ≡ v → HasTrapped v → HasRaised (λ n. (a.validation.count ≤ n) × (slice_get a.homes.items n ≡ Some None)) a.warden w
    → Raises v (record (chain_value a) { warden = w })
rest-raised a v w h is trapped g = record {
  warden = w;
  same = ap (λ (x : ChainValue). let y : ChainValue = record x { warden = w } in y) is;
  raised = subst (λ (x : ChainValue). HasRaised (IsToRaise x) x.warden w) is
      (raised-same (λ n. (a.validation.count ≤ n) × (slice_get a.homes.items n ≡ Some None)) (IsToRaise (chain_value a)) a.warden w g
      (λ n q. (out-above (entry_at a.site.value) (guess_at a.site.value) a.homes.items a.validation n h.stands q.out.out, q.out.out))
      (λ n p. record {
        out = record { out = p.1; first = λ on. (let s = h.second on in absurd (not-both-settled a.validation.settled s.0 trapped.trap s.1 mine)) };
        why = inr (record { trap = trapped.trap; trapped = mine });
      }));
}
  where
    mine : a.validation.settled ≡ Trapped trapped.trap
    mine = ap (λ (x : ChainValue). x.settled) is ∙ trapped.trapped
