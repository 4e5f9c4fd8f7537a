-- Lists of mates, and of hands.
use Rattle.std.proofs.Common.{◌≡◌, ℕ, zero, suc, ◌+◌, ◌<◌, ◌≤◌, true, List, [], ◌∷◌, ◌++◌, length, length-append, length-set, get_or, remove, set, replicate, false, ◌≢◌, sym, refl, ap, ◌∙◌, subst, ⊎_elim, arith}
use Rattle.std.specs.List.{All}
use mathlib.Core.Option.{some, some-injective}
use lib.ListN.{get_elem?, length-replicate}
use Rattle.atomic_table.proofs.Lists.{at_longer, at_last, at_set}
use Rattle.spf_pool.specs.Hands.{HandValue}
use Rattle.spf_crew.specs.declared.view.CrewSetting.{CrewSetting}
use Rattle.spf_crew.specs.Values.{CrewValue, ChainSeatValue}
use Rattle.spf_crew.specs.Mates.{MateValue, IsMateOf}
use Rattle.spf_crew.specs.Crews.{IsNumbered, AreFirstMates, AreAllMates, HaveRead, dealt, capacities_for, IsDealtTo, AreDealt, IsNewMate}
use Rattle.spf_crew.specs.declared.held.Held.TheVariants as held
use Rattle.spf_pool.specs.Made.{new_hand, AreNewHands}
use Rattle.atomic_table.specs.Seated.{TableId}
use Rattle.spf_crew.proofs.Steps.{snoc_at}

pub behead : {A : Type 0} (l : List A) (i : ℕ) → get_elem? (remove l 0) i ≡ get_elem? l (suc i)
behead [] zero = refl
behead [] (suc i) = refl
behead (x ∷ xs) i = refl

pub beheaded : {A : Type 0} (l : List A) → 0 < length l → length (remove l 0) + 1 ≡ length l
beheaded [] less = absurd (omega arith)
beheaded (x ∷ xs) less = omega arith

pub first_of : {A : Type 0} (l : List A) (a : A) → 0 < length l → a ≡ get_or l 0 a → get_elem? l 0 ≡ some a
first_of [] a less is = absurd (omega arith)
first_of (x ∷ xs) a less is = ap some (sym is)

pub numbered-snoc : (c : CrewValue) (mates : List MateValue) (m : MateValue) → AreFirstMates c mates → IsNumbered c (length mates) m → AreFirstMates c (mates ++ m ∷ [])
numbered-snoc c mates m first one = λ i x at. ⊎_elim (λ e. first i x e) (λ (t : (i ≡ length mates) × (m ≡ x)). subst (λ (y : ℕ × MateValue). IsNumbered c y.0 y.1) (λ k. (sym t.0 k, t.1 k)) one) (snoc_at mates m x i at)

pub all-snoc : (c : CrewValue) (mates all : List MateValue) (m : MateValue) → all ≡ mates ++ m ∷ [] → AreFirstMates c mates → IsNumbered c (length mates) m → length mates + 1 ≡ c.setting.mates → AreAllMates c all
all-snoc c mates all m is first one count = subst (AreAllMates c) (sym is) record { each = numbered-snoc c mates m first one; count = omega (arith, length-append mates (m ∷ [])) }

-- the last mate of some, and those before it
pub fewer : (c : CrewValue) (all mates : List MateValue) (m : MateValue) → all ≡ mates ++ m ∷ [] → AreFirstMates c all → AreFirstMates c mates
fewer c all mates m is first = λ i x at. first i x (ap (λ (l : List MateValue). get_elem? l i) is ∙ at_longer mates (m ∷ []) i x at)

pub fewer_read : (all mates : List MateValue) (m : MateValue) → all ≡ mates ++ m ∷ [] → HaveRead all → HaveRead mates
fewer_read all mates m is read = λ i x at. read i x (ap (λ (l : List MateValue). get_elem? l i) is ∙ at_longer mates (m ∷ []) i x at)

pub last_one : (c : CrewValue) (all mates : List MateValue) (m : MateValue) → all ≡ mates ++ m ∷ [] → AreFirstMates c all → HaveRead all → IsNumbered c (length mates) m × (m.seat.read ≡ true) × (length all ≡ length mates + 1)
last_one c all mates m is first read =
    let at : get_elem? all (length mates) ≡ some m = ap (λ (l : List MateValue). get_elem? l (length mates)) is ∙ at_last mates m (length mates) refl in
    (first (length mates) m at, read (length mates) m at, ap length is ∙ length-append mates (m ∷ []))

-- one more that is numbered
pub each-snoc : {A : Type 0} (P : ℕ → A → Type 0) (l all : List A) (a : A) → all ≡ l ++ a ∷ [] → ((i : ℕ) (b : A) → get_elem? l i ≡ some b → P i b) → P (length l) a → (i : ℕ) (b : A) → get_elem? all i ≡ some b → P i b
each-snoc P l all a is h p = λ i b at. ⊎_elim (λ e. h i b e) (λ (t : (i ≡ length l) × (a ≡ b)). subst (λ (y : ℕ × _). P y.0 y.1) (λ k. (sym t.0 k, t.1 k)) p) (snoc_at l a b i (ap (λ x. get_elem? x i) (sym is) ∙ at))

-- hands from the next number on
pub dealt-on : (k : CrewSetting) (tickets n m : ℕ) (hands rest : List (HandValue CrewSetting)) → AreDealt k tickets n hands → rest ≡ remove hands 0 → m ≡ n + 1 → AreDealt k tickets m rest
dealt-on k tickets n m hands rest deal is next = λ i h at.
    let e : n + suc i ≡ m + i = omega (arith, next) in
    subst (λ x. IsDealtTo k (dealt tickets x) h) e (deal (suc i) h (sym (behead hands i) ∙ (ap (λ l. get_elem? l i) (sym is) ∙ at)))

pub dealt-first : (k : CrewSetting) (tickets n : ℕ) (hands : List (HandValue CrewSetting)) (h : HandValue CrewSetting) → AreDealt k tickets n hands → get_elem? hands 0 ≡ some h → IsDealtTo k (dealt tickets n) h
dealt-first k tickets n hands h deal at = let e : n + 0 ≡ n = omega arith in subst (λ x. IsDealtTo k (dealt tickets x) h) e (deal 0 h at)

-- a mate that was made of a new seat and a dealt hand
pub new-mate : (k : CrewSetting) (tickets : ℕ) (m : MateValue) (p : ChainSeatValue) (h : HandValue CrewSetting) → m ≡ record { seat = p; hand = h; held = held.Nothing } → p.seen ≡ 0 → p.read ≡ false → IsDealtTo k tickets h → IsNewMate tickets m
new-mate k tickets m p h is seen read d = subst (IsNewMate tickets) (sym is) (record { held = refl; seen = seen; read = read; given = d.given })

-- ---- new hands

nothing-given : (n i : ℕ) → ◌≡◌ {A = ℕ} (get_or (replicate n 0) i 0) 0
nothing-given zero i = refl
nothing-given (suc n) zero = refl
nothing-given (suc n) (suc i) = nothing-given n i

pub new-dealt : (k : CrewSetting) (capacity : ℕ) (deques : List TableId) (own : ℕ) (h : HandValue CrewSetting) → h ≡ new_hand k capacity deques own → IsDealtTo k 0 h
new-dealt k capacity deques own h is = subst (IsDealtTo k 0) (sym is) (record { key = refl; given = nothing-given (length deques) own })

-- what hands may give where the first may give all tickets
pub capacities-count : (workers tickets : ℕ) → length (capacities_for workers tickets) ≡ workers
capacities-count workers tickets = length-set (replicate workers 0) 0 tickets ∙ length-replicate {A = ℕ} workers 0

first-capacity : (workers tickets : ℕ) → 0 < workers → get_or (capacities_for workers tickets) 0 0 ≡ tickets
first-capacity zero tickets more = absurd (omega (arith, more))
first-capacity (suc n) tickets more = refl

none-above : (n k d : ℕ) → k < n → ◌≡◌ {A = ℕ} (get_or (replicate n 0) k d) 0
none-above zero k d low = absurd (omega (arith, low))
none-above (suc n) zero d low = refl
none-above (suc n) (suc k) d low = none-above n k d (omega (arith, low))

pub capacities-low : (workers tickets : ℕ) → tickets ≤ 8192 → All (λ c. c ≤ 8192) (capacities_for workers tickets)
capacities-low zero tickets few k d low = absurd (omega (arith, low))
capacities-low (suc n) tickets few zero d low = few
capacities-low (suc n) tickets few (suc k) d low = let size = length-replicate {A = ℕ} n 0 in let e = none-above n k d (omega (arith, low, size)) in omega (arith, e)

-- there is a hand for each worker
pub hands-count : (k : CrewSetting) (capacity workers : ℕ) (hands : List (HandValue CrewSetting)) → AreNewHands k (capacities_for workers capacity) hands → length hands ≡ workers
hands-count k capacity workers hands new = new.count ∙ capacities-count workers capacity

-- the first hand has all tickets, and the others have none
pub all-dealt : (k : CrewSetting) (capacity workers tickets : ℕ) (hands : List (HandValue CrewSetting)) (first : HandValue CrewSetting) → AreNewHands k (capacities_for workers capacity) hands → IsDealtTo k tickets first → AreDealt k tickets 0 (set hands 0 first)
all-dealt k capacity workers tickets hands first new deal = λ i h at. ⊎_elim
    (λ (t : (i ≡ 0) × (first ≡ h)). subst (λ (y : ℕ × HandValue CrewSetting). IsDealtTo k (dealt tickets (0 + y.0)) y.1) (λ j. (sym t.0 j, t.1 j)) deal)
    (λ (t : (i ≢ 0) × (get_elem? hands i ≡ some h)). other i h t.0 (new-dealt k (get_or (capacities_for workers capacity) i 0) new.deques i h (new.each i h t.1)))
    (at_set hands 0 i first h at)
  where
    other : (i : ℕ) (h : HandValue CrewSetting) → i ≢ 0 → IsDealtTo k 0 h → IsDealtTo k (dealt tickets (0 + i)) h
    other zero h ne d = absurd (ne refl)
    other (suc i) h ne d = let e : suc i ≡ 0 + suc i = omega arith in subst (λ n. IsDealtTo k (dealt tickets n) h) e d

-- what may be asked of the first of new hands
pub record CanTakeAll (k : CrewSetting) (capacity : ℕ) (h : HandValue CrewSetting) : Type 0 where
  pub key : h.key ≡ k
  pub capacity_is : h.capacity ≡ capacity
  pub own : h.own < length h.given
  pub given : get_or h.given h.own 0 ≡ 0

pub first-hand : (k : CrewSetting) (capacity workers : ℕ) (hands : List (HandValue CrewSetting)) (h : HandValue CrewSetting) → AreNewHands k (capacities_for workers capacity) hands → 0 < workers → get_elem? hands 0 ≡ some h → CanTakeAll k capacity h
first-hand k capacity workers hands h new more at = subst (CanTakeAll k capacity) (sym (new.each 0 h at)) (record {
  key = refl;
  capacity_is = first-capacity workers capacity more;
  own = (let n = new.size ∙ capacities-count workers capacity in omega (arith, more, n, length-replicate {A = ℕ} (length new.deques) 0));
  given = nothing-given (length new.deques) 0;
})

-- ---- all mates

present : {A : Type 0} (l : List A) (i : ℕ) (d : A) → i < length l → get_elem? l i ≡ some (get_or l i d)
present [] i d less = absurd (omega arith)
present (x ∷ xs) zero d less = refl
present (x ∷ xs) (suc i) d less = present xs i d (omega (arith, less))

-- all mates of a crew are mates of it
pub all-of : (c : CrewValue) (mates : List MateValue) → AreAllMates c mates → All (IsMateOf c) mates
all-of c mates all = λ k d low. (all.each k (get_or mates k d) (present mates k d low)).of

-- and so they are where one has changed
pub still-mates : (c : CrewValue) (mates : List MateValue) (i : ℕ) (m : MateValue) → All (IsMateOf c) mates → IsMateOf c m → All (IsMateOf c) (set mates i m)
still-mates c mates i m all one = λ k d low. ⊎_elim
    (λ (t : (k ≡ i) × (m ≡ get_or (set mates i m) k d)). subst (IsMateOf c) t.1 one)
    (λ (t : (k ≢ i) × (get_elem? mates k ≡ some (get_or (set mates i m) k d))). subst (IsMateOf c) (some-injective (get_or mates k d) (get_or (set mates i m) k d) (sym (present mates k d (let n = length-set mates i m in omega (arith, low, n))) ∙ t.1)) (all k d (let n = length-set mates i m in omega (arith, low, n))))
    (at_set mates i k m (get_or (set mates i m) k d) (present (set mates i m) k d low))
