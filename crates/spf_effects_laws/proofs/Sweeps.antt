-- The index of a sweep's store, and the sweeps of a loop's body.
use Rattle.std.proofs.Common.{◌≡◌, ℕ, Bool, true, false, List, [], Option, Some, None, ℤ, pos, refl, sym, ◌∙◌, arith}
use Rattle.std.specs.Prelude.{◌+ℤ◌, ◌-ℤ◌, neg_ℤ, if◌then◌else◌, ◌==◌, Ok, Err, slice_index_or}
use Rattle.std.proofs.lemmas.Int.{ints}
use Rattle.std.proofs.lemmas.Bool.Decides.{Decides-eqb}
use Rattle.spf_ast.specs.declared.outcome.TrapKind.TheVariants.{Overflow}
use Rattle.spf_ast.specs.declared.syntax.Op.TheVariants.{Add, Sub}
use Rattle.spf_ast.specs.Syntax.{Expression, Number, Local, Binary}
use Rattle.spf_ast.specs.Syntax.{Statement, Store, Block, on_line}
use Rattle.spf_ast.specs.Word.{is_word}
use Rattle.spf_ast.specs.Interaction.{Interaction, State, Ending, Value, Trapped}
use Rattle.spf_ast.specs.Meaning.{Environment, Extent, checked, expression_means}
use Rattle.spf_effects_findings.specs.Found.{Sweep, nowhere}
use Rattle.spf_effects_findings.specs.Forms.{distance, sweep, sweeps}
use Rattle.spf_effects_laws.specs.Ways.{Keeps}
use Rattle.spf_effects_laws.proofs.Ways.{in-none, Grows, keeps-mono, keeps-any, Anything}
use Rattle.spf_effects_laws.proofs.Meeting.{AreStored, EndsWith, AreSwept}
use Rattle.spf_effects_laws.proofs.Stores.{HasElement}

-- ---- the index of a sweep

-- the value of an index that is the loop's name, or that and a number, from the slots before it
abbrev pub IsStepped : Expression → State → ℤ → Type 0
IsStepped e s z = (x : ℕ) (d : ℤ) → distance x e ≡ Some d → z ≡ slice_index_or s.slots x (pos 0) +ℤ d

if-same : (b : Bool) (n d : ℤ) → (if◌then◌else◌ {A = Option ℤ} b (Some n) None) ≡ Some d → (b ≡ true) × (n ≡ d)
if-same true n d e = (refl, cc)
if-same false n d e = cc

pub stored-nothing : (g : List Extent) (k : ℤ) (d : List ℕ) → AreStored g k nowhere d
stored-nothing g k d a f o cell index e el spot = cc

-- where there is no such index
no-step : (g : List Extent) (k : ℤ) (post : ℤ → State → List ℕ → Type 0) (t : Interaction (Ending ℤ)) (done : List ℕ) → ((z : ℤ) (s : State) (d : List ℕ) → post z s d) → Keeps Anything Anything (EndsWith g k nowhere post) done t
no-step g k post t done p = keeps-mono Anything Anything Anything Anything (λ a d. Unit {0}) (EndsWith g k nowhere post) [] (λ c h. h) (λ c h. h) ending t done (λ c h. in-none c h) (keeps-any t done)
  where
    ending : (a : Ending ℤ) (d : List ℕ) → Grows [] d → Unit {0} → EndsWith g k nowhere post a d
    ending (Value z s) d grows h = (stored-nothing g k d, p z s d)
    ending (Trapped t' out) d grows h = tt

-- a local and a number
exact-stepped : (g : List Extent) (k : ℤ) (line : ℕ) (s : State) (w : ℤ) (post : ℤ → Type 0) (b : Bool) (done : List ℕ) → post w → Keeps Anything Anything (EndsWith g k nowhere (λ z e d. post z)) done (checked line (if b then Ok w else Err Overflow) s)
exact-stepped g k line s w post true done p = (stored-nothing g k done, p)
exact-stepped g k line s w post false done p = tt

pub index-is : (g : Environment) (k : ℤ) (line : ℕ) (e : Expression) (s : State) (done : List ℕ) → Keeps Anything Anything (EndsWith g.extents k nowhere (λ z e' d. IsStepped e s z)) done (expression_means g line e s)
index-is g k line (Local y) s done = (
  stored-nothing g.extents k done,
  λ x d is.
      let h = if-same (y == x) (pos 0) d is in
      let same : y ≡ x = (Decides-eqb y x).0 h.0 in
      rw same (omega (arith, ints, h.1)),
)
index-is g k line (Binary Add (Local y) (Number n)) s done =
    exact-stepped g.extents k line s (slice_index_or s.slots y (pos 0) +ℤ n) (IsStepped (Binary Add (Local y) (Number n)) s) (is_word (slice_index_or s.slots y (pos 0) +ℤ n)) done
    (λ x m is.
    let h = if-same (y == x) n m is in
    let same : y ≡ x = (Decides-eqb y x).0 h.0 in
    rw same (omega (arith, ints, h.1)))
index-is g k line (Binary Sub (Local y) (Number n)) s done =
    exact-stepped g.extents k line s (slice_index_or s.slots y (pos 0) -ℤ n) (IsStepped (Binary Sub (Local y) (Number n)) s) (is_word (slice_index_or s.slots y (pos 0) -ℤ n)) done
    (λ x m is.
    let h = if-same (y == x) (neg_ℤ n) m is in
    let same : y ≡ x = (Decides-eqb y x).0 h.0 in
    rw same (omega (arith, ints, h.1)))
index-is g k line e s done = no-step g.extents k (λ z e' d. IsStepped e s z) (expression_means g line e s) done (λ z s' d x m is. cc)

-- ---- the sweeps of a body

-- those of a direct statement
abbrev pub sweeps_of : ℕ → Statement → List Sweep
sweeps_of x (Store array index value) = sweep array (distance x index) []
sweeps_of x _ = []

-- the sweep of a store has been made
pub store-swept : (g : List Extent) (a : ℕ) (i : Expression) (s : State) (z : ℤ) (d : List ℕ) (x : ℕ) → IsStepped i s z → HasElement g a z d → AreSwept g (sweep a (distance x i) []) (slice_index_or s.slots x (pos 0)) d
store-swept g a i s z d x stepped has = go (distance x i) refl
  where
    go : (o : Option ℤ) → distance x i ≡ o → AreSwept g (sweep a o []) (slice_index_or s.slots x (pos 0)) d
    go None e = tt
    go (Some m) e = ((λ cell index el spot. has cell index el (spot ∙ sym (stepped x m e))), tt)

-- the sweeps of a statement, and of those after it
pub swept-line : (g : List Extent) (x line : ℕ) (s : Statement) (rest : Block) (z : ℤ) (d : List ℕ) → AreSwept g (sweeps_of x s) z d → AreSwept g (sweeps x rest) z d → AreSwept g (sweeps x (on_line line s rest)) z d
swept-line g x line (Store a i e) rest z d p q = go (distance x i) p
  where
    go : (o : Option ℤ) → AreSwept g (sweep a o []) z d → AreSwept g (sweep a o (sweeps x rest)) z d
    go None r = q
    go (Some m) r = (r.0, q)
swept-line g x line s rest z d p q = q
