-- A block is validated.
use Rattle.std.proofs.Common.{◌≡◌, ◌⊎◌, ℕ, ◌+◌, ◌<◌, ◌≤◌, suc, Bool, true, false, List, [], ◌∷◌, ◌++◌, length, length-append, take, set, get_or, refl, sym, ap, ◌∙◌, subst, inl, inr, Option, Some, None, arith, slice_get, if◌then◌else◌}
use Rattle.std.specs.Prelude.{map}
use Rattle.std.proofs.lemmas.List.{take_more_set, length-set}
use Rattle.std.proofs.lemmas.Option.{slice_get-get_or, slice_get_past}
use Rattle.spf_ast.specs.Event.{Event, IsConsistent}
use Rattle.spf_ast.specs.Interaction.{State, Performed, Ended, Ending, Value, Trapped}
use Rattle.spf_exec.specs.declared.stop.Stop.{Stop}
use Rattle.spf_exec.specs.declared.stop.Stop.TheVariants as stop
use Rattle.spf_chain.specs.declared.block.Settled.{Settled}
use Rattle.spf_chain.specs.declared.block.Settled.TheVariants as settled
use Rattle.spf_chain.specs.declared.block.ChainBlock.{ChainBlock}
use Rattle.spf_chain.specs.Homes.{result_of}
use Rattle.spf_chain.proofs.Lists.{set_cases, set_other}
use Rattle.spf_cells.specs.Log.{events}
use Rattle.spf_cells.specs.Values.{CellsValue}
use Rattle.spf_ast.specs.Carried.{Carried, same_carried}
use Rattle.spf_speculation_entry.proofs.Rows.{Decides-same_carried}
use Rattle.spf_speculation_entry.specs.Entry.{Entry, IsEntry}
use Rattle.spf_speculation_entry.specs.Attempts.{attempted, IsWhole}
use Rattle.spf_speculation.specs.Runs.{IsRealLog, at_once, again}
use Rattle.spf_speculation.specs.Prefixes.{PrefixesGrow, PrefixesEnd}
use Rattle.spf_ticket.specs.Tickets.{CanBeAttempted, first, second, EndsAs}
use Rattle.spf_ticket.specs.declared.ticket.Report.{Report}
use Rattle.spf_chain.specs.Homes.{known_at, known_in, home_log, log_in, IsHome, AreHomes}
use Rattle.spf_chain.specs.Standing.{Grows, validated_rows, PrefixAt, HasValidated}
use Rattle.spf_chain.proofs.Lists.{map-append, some-same}

-- ---- what a report says

chose-then : {X : Type 0} (c : Bool) (x y : Option X) (o : X) → (if c then x else None) ≡ Some o → (c ≡ true) × (x ≡ Some o)
chose-then true x y o h = (refl, h)
chose-then false x y o h = absurd cc

pub known-home : (v : Carried) (r : Report) (o : Settled) → known_at v (Some r) ≡ Some o → (r.ticket.carried ≡ v) × (result_of r.stop ≡ Some o)
known-home v r o h =
    let c = chose-then (same_carried r.ticket.carried v) (result_of r.stop) None o h in
    ((Decides-same_carried r.ticket.carried v).0 c.0, c.1)

-- an ending comes to this, whatever is in the slots then
abbrev pub EndsWith : Ending Carried → Settled → Type 0
EndsWith ending (settled.Carried v) = (state : State) × (ending ≡ Value v state)
EndsWith ending (settled.Trapped t) = ending ≡ Trapped t []

-- a whole attempt with an ending that comes to this
record WholeAs (came : Performed (Ending Carried)) (o : Settled) : Type 0 where
  ending : Ending Carried
  whole : came ≡ Ended ending []
  ends : EndsWith ending o

whole-as : (came : Performed (Ending Carried)) (s : Stop) (o : Settled) → result_of s ≡ Some o → EndsAs came s → WholeAs came o
whole-as came (stop.Ended v) o h is =
    let same : settled.Carried v ≡ o = some-same (settled.Carried v) o h in
    record { ending = Value v is.0; whole = is.1; ends = subst (EndsWith (Value v is.0)) same (is.0, refl) }
whole-as came (stop.Trapped t) o h is =
    let same : settled.Trapped t ≡ o = some-same (settled.Trapped t) o h in
    record { ending = Trapped t []; whole = is; ends = subst (EndsWith (Trapped t [])) same refl }
whole-as came (stop.Cancelled seen) o h is = absurd cc

-- the log of a block at its real row, which comes to this
record RealLogTo (e : Entry) (guess : ℕ → Carried) (n : ℕ) (v : Carried) (log : List Event) (o : Settled) : Type 0 where
  ending : Ending Carried
  real : IsRealLog e guess n v log ending
  ends : EndsWith ending o

-- a whole attempt after what was before it
ready-log : (e : Entry) (guess : ℕ → Carried) (n a : ℕ) (v : Carried) (all before log : List Event) (ending : Ending Carried) → CanBeAttempted e guess n a v before → all ≡ before ++ log → IsWhole e n v a log ending → IsRealLog e guess n v all ending
ready-log e guess n a v all before log ending (first a-is v-is none) grown whole =
    let same : all ≡ log = grown ∙ ap (λ l. l ++ log) none in
    at_once (sym v-is) (subst (λ l. IsWhole e n v 1 l ending) (sym same) (subst (λ x. IsWhole e n v x log ending) a-is whole))
ready-log e guess n a v all before log ending (second a-is ne real att) grown whole =
    again before log grown ne att (subst (λ x. IsWhole e n v x log ending) a-is whole)

home-log : (e : Entry) (guess : ℕ → Carried) (c : CellsValue) (n : ℕ) (v : Carried) (r : Report) (o : Settled) → IsHome e guess c n r → r.ticket.carried ≡ v → result_of r.stop ≡ Some o
    → RealLogTo e guess n v (events r.ticket.lane.log) o
home-log e guess c n v r o h carried known =
    let l = h.lawful in
    let ready : CanBeAttempted e guess n r.ticket.attempt v l.before =
    subst (λ x. CanBeAttempted e guess n r.ticket.attempt x l.before) carried (subst (λ k. CanBeAttempted e guess k r.ticket.attempt r.ticket.carried l.before) h.block l.ready) in
    let w = whole-as (attempted e r.ticket.block r.ticket.carried r.ticket.attempt l.log) r.stop o known l.stopped in
    let whole : IsWhole e n v r.ticket.attempt l.log w.ending = (λ t. attempted e (sym h.block t) (sym carried t) r.ticket.attempt l.log) ∙ w.whole in
    record { ending = w.ending; real = ready-log e guess n r.ticket.attempt v (events r.ticket.lane.log) l.before l.log w.ending ready l.grown whole; ends = w.ends }

-- ---- one more block

-- a block with its real row
abbrev pub with_real : ChainBlock → Carried → ChainBlock
with_real b v = record { block = b.block; guess = b.guess; row = v }

known-somewhere : (homes : List (Option Report)) (k : ℕ) (v : Carried) (o : Settled) (x : Option (Option Report)) → slice_get homes k ≡ x → known_in v x ≡ Some o
    → (r : Report) × (slice_get homes k ≡ Some (Some r)) × (r.ticket.carried ≡ v) × (result_of r.stop ≡ Some o)
known-somewhere homes k v o None at h = absurd cc
known-somewhere homes k v o (Some None) at h = absurd cc
known-somewhere homes k v o (Some (Some r)) at h = let i = known-home v r o h in (r, at, i.0, i.1)

stands-on : PrefixesGrow → PrefixesEnd → (e : Entry) (guess : ℕ → Carried) (homes : List (Option Report)) (k : ℕ) (v : Carried) (values : List Carried) (o : Settled) → IsEntry e → k < e.header.blocks → PrefixAt e guess (log_in homes) k values v
    → RealLogTo e guess k v (log_in homes k) o → IsConsistent (log_in homes k) e.memory → HasValidated e guess (log_in homes) (suc k) (values ++ v ∷ []) o
stands-on grow end e guess homes k v values (settled.Carried w) h low f real is = record {
  memory = _;
  prefix = grow e guess (log_in homes) k values v f.memory w real.ends.0 h f.prefix low (subst (IsRealLog e guess k v (log_in homes k)) real.ends.1 real.real) is;
}
stands-on grow end e guess homes k v values (settled.Trapped t) h low f real is = record {
  last = k;
  after = refl;
  inside = omega (arith, low);
  count = omega (arith, f.prefix.count, length-append values (v ∷ []));
  ends = end e guess (log_in homes) k values v f.memory t [] h f.prefix low (subst (IsRealLog e guess k v (log_in homes k)) real.ends real.real) is;
}

pub one-more : PrefixesGrow → PrefixesEnd → (e : Entry) (guess : ℕ → Carried) (c : CellsValue) (homes : List (Option Report)) (bs : List ChainBlock) (k : ℕ) (v : Carried) (o : Settled) (b : ChainBlock)
    → IsEntry e → AreHomes e guess c homes → length homes ≡ e.header.blocks → length bs ≡ length homes → k < length homes
    → PrefixAt e guess (log_in homes) k (validated_rows k bs) v → known_in v (slice_get homes k) ≡ Some o
    → HasValidated e guess (log_in homes) (k + 1) (validated_rows (k + 1) (set bs k (with_real b v))) o
one-more grow end e guess c homes bs k v o b h are many size low f known =
    let r = known-somewhere homes k v o (slice_get homes k) refl known in
    let home = are k r.0 r.1 in
    let log : events r.0.ticket.lane.log ≡ log_in homes k = ap home_log (sym r.1) in
    let real : RealLogTo e guess k v (log_in homes k) o = subst (λ l. RealLogTo e guess k v l o) log (home-log e guess c k v r.0 o home r.2 r.3) in
    let values : validated_rows (k + 1) (set bs k (with_real b v)) ≡ validated_rows k bs ++ v ∷ [] =
    ap (map (λ x. x.row)) (take_more_set bs k (with_real b v) (omega (arith, low, size))) ∙ map-append (λ x. x.row) (take k bs) (with_real b v ∷ []) in
    let more : suc k ≡ k + 1 = omega arith in
    subst (λ l. HasValidated e guess (log_in homes) (k + 1) l o) (sym values)
    (subst (λ n. HasValidated e guess (log_in homes) n (validated_rows k bs ++ v ∷ []) o) more
    (stands-on grow end e guess homes k v (validated_rows k bs) o h (omega (arith, low, many)) f real (subst (λ l. IsConsistent l e.memory) log home.consistent)))

-- what code read of an index
pub there : (homes : List (Option Report)) (i : ℕ) (home : Option Report) → i < length homes → home ≡ get_or homes i home → slice_get homes i ≡ Some home
there homes i home low read = slice_get-get_or homes i home low ∙ ap (λ x. Some x) (sym read)

-- the same, as code does it
pub one-more-at : PrefixesGrow → PrefixesEnd → (e : Entry) (guess : ℕ → Carried) (c : CellsValue) (homes : List (Option Report)) (bs : List ChainBlock) (k i : ℕ) (s o : Settled) (v w : Carried) (b : ChainBlock) (home : Option Report)
    → IsEntry e → AreHomes e guess c homes → length homes ≡ e.header.blocks → length bs ≡ length homes
    → HasValidated e guess (log_in homes) k (validated_rows k bs) s → k ≡ i → s ≡ settled.Carried v → w ≡ v → i < length homes → home ≡ get_or homes i home → Some o ≡ known_at w home
    → HasValidated e guess (log_in homes) (i + 1) (validated_rows (i + 1) (set bs i (with_real b w))) o
one-more-at grow end e guess c homes bs k i s o v w b home h are many size stands is carried same low read known =
    let at : HasValidated e guess (log_in homes) i (validated_rows i bs) (settled.Carried v) =
    subst (λ n. HasValidated e guess (log_in homes) n (validated_rows n bs) (settled.Carried v)) is (subst (λ x. HasValidated e guess (log_in homes) k (validated_rows k bs) x) carried stands) in
    let here : known_in v (slice_get homes i) ≡ Some o = ap (known_in v) (there homes i home low read) ∙ ap (λ x. known_at x home) (sym same) ∙ sym known in
    subst (λ x. HasValidated e guess (log_in homes) (i + 1) (validated_rows (i + 1) (set bs i (with_real b x))) o) (sym same)
    (one-more grow end e guess c homes bs i v o b h are many size low at here)

less-or-same : (n i : ℕ) → n < i + 1 → (n < i) ⊎ (n ≡ i)
less-or-same n i h = grind (arith, h)

-- a block whose result is known is home
pub is-home : (homes : List (Option Report)) (i : ℕ) (w : Carried) (o : Settled) (home : Option Report) → i < length homes → home ≡ get_or homes i home → Some o ≡ known_at w home → (r : Report) × (slice_get homes i ≡ Some (Some r))
is-home homes i w o home low read known =
    let r = known-somewhere homes i w o (slice_get homes i) refl (ap (known_in w) (there homes i home low read) ∙ sym known) in (r.0, r.1)

pub home-below : (homes : List (Option Report)) (k i : ℕ) → k ≡ i → ((n : ℕ) → n < k → (r : Report) × (slice_get homes n ≡ Some (Some r))) → (r : Report) × (slice_get homes i ≡ Some (Some r))
    → (n : ℕ) → n < i + 1 → (r : Report) × (slice_get homes n ≡ Some (Some r))
home-below homes k i is below here n low = elim (less-or-same n i low) [
  | inl less ↦ below n (omega (arith, less, is))
  | inr same ↦ subst (λ m. (r : Report) × (slice_get homes m ≡ Some (Some r))) (sym same) here
]

-- past the end nothing is known
pub past-none : (homes : List (Option Report)) (k : ℕ) (v : Carried) → length homes ≤ k → known_in v (slice_get homes k) ≡ None
past-none homes k v h = ap (known_in v) (slice_get_past homes k h)

-- one more of the listed blocks was validated
pub grows-more : (k : ℕ) (xs : List ChainBlock) (j i : ℕ) (ys : List ChainBlock) (b : ChainBlock) (w : Carried) → Grows k xs j ys → j ≡ i → slice_get ys i ≡ Some b → Grows k xs (i + 1) (set ys i (with_real b w))
grows-more k xs j i ys b w g is at = record {
  further = omega (arith, g.further, is);
  size = length-set ys i (with_real b w) ∙ g.size;
  first = λ n low. set_other ys i n (with_real b w) (λ e. let f = g.further in absurd (omega (arith, e, low, f, is))) ∙ g.first n low;
  rest = λ n low. set_other ys i n (with_real b w) (λ e. absurd (omega (arith, e, low))) ∙ g.rest n (omega (arith, low, is));
  given = λ n c here. elim (set_cases ys i n (with_real b w) c here) [
    | inl e ↦
        let a = g.given i b at in
        (a.0, ap (slice_get xs) e.0 ∙ a.1, ap (λ (x : ChainBlock). x.block) e.1 ∙ a.2, ap (λ (x : ChainBlock). x.guess) e.1 ∙ a.3)
    | inr there ↦ g.given n c there
  ];
}

pub grows-none : (k : ℕ) (xs : List ChainBlock) → Grows k xs k xs
grows-none k xs = record { further = omega arith; size = refl; first = λ n low. refl; rest = λ n low. refl; given = λ n b at. (b, at, refl, refl) }
