-- How far blocks are validated.
use Rattle.std.specs.Prelude.{◌≡◌, ℕ, suc, ◌<◌, ◌≤◌, List, map, take, length, Option, Some, None, ℤ, slice_get}
use Rattle.spf_ast.specs.declared.outcome.Trap.{Trap}
use Rattle.spf_ast.specs.Carried as carried
use Rattle.spf_ast.specs.Event.{Event}
use Rattle.spf_speculation_entry.specs.Entry.{Entry}
use Rattle.spf_speculation.specs.Prefixes.{IsValidatedPrefix, EndsAt}
use Rattle.spf_ticket.specs.declared.ticket.Report.{Report}
use Rattle.spf_chain.specs.declared.block.Settled.{Settled}
use Rattle.spf_chain.specs.declared.block.Settled.TheVariants.{Carried, Trapped}
use Rattle.spf_chain.specs.declared.block.ChainBlock.{ChainBlock}
use Rattle.spf_chain.specs.declared.validation.Validation.{Validation}
use Rattle.spf_chain.specs.Homes.{known_in, log_in}

-- the real rows of the first blocks
abbrev pub validated_rows : ℕ → List ChainBlock → List carried.Carried
validated_rows count blocks = map (λ b. b.row) (take count blocks)

-- the first n blocks are a validated prefix, on some memory
pub record PrefixAt (e : Entry) (guess : ℕ → carried.Carried) (logs : ℕ → List Event) (n : ℕ)
    (values : List carried.Carried) (v : carried.Carried) : Type 0 where
  pub memory : List ℤ
  pub prefix : IsValidatedPrefix e guess logs n values v memory

-- the last of the first n blocks ended the run with a trap
pub record TrappedAt (e : Entry) (guess : ℕ → carried.Carried) (logs : ℕ → List Event) (n : ℕ) (values : List carried.Carried) (trap : Trap) : Type 0 where
  pub last : ℕ
  pub after : n ≡ suc last
  pub inside : n ≤ e.header.blocks
  pub count : length values ≡ n
  pub ends : EndsAt e guess logs last values trap

-- the first n blocks are validated, with these real rows: the next one begins at this row, or the last one trapped
abbrev pub HasValidated : Entry → (ℕ → carried.Carried) → (ℕ → List Event) → ℕ → List carried.Carried → Settled → Type 0
HasValidated e guess logs n values (Carried v) = PrefixAt e guess logs n values v
HasValidated e guess logs n values (Trapped trap) = TrappedAt e guess logs n values trap

-- the first `count` blocks are validated over these reports, all of which are home
pub record IsValidationOf (e : Entry) (guess : ℕ → carried.Carried) (homes : List (Option Report)) (x : Validation) : Type 0 where
  pub blocks : length homes ≡ e.header.blocks
  pub stands : HasValidated e guess (log_in homes) x.count (validated_rows x.count x.blocks.items) x.settled
  pub home : (n : ℕ) → n < x.count → (r : Report) × (slice_get homes n ≡ Some (Some r))

-- no further block can be validated
abbrev pub IsDone : List (Option Report) → ℕ → Settled → Type 0
IsDone homes k s = (v : carried.Carried) → s ≡ Carried v → known_in v (slice_get homes k) ≡ None

-- the validated blocks
abbrev pub history_of : Validation → List ChainBlock
history_of x = take x.count x.blocks.items

-- of these blocks k were validated, and then j: those before stay, each block keeps its index and its guess, and each that isn't validated all it has
pub record Grows (k : ℕ) (xs : List ChainBlock) (j : ℕ) (ys : List ChainBlock) : Type 0 where
  pub further : k ≤ j
  pub size : length ys ≡ length xs
  pub first : (n : ℕ) → n < k → slice_get ys n ≡ slice_get xs n
  pub rest : (n : ℕ) → j ≤ n → slice_get ys n ≡ slice_get xs n
  pub given : (n : ℕ) (b : ChainBlock) → slice_get ys n ≡ Some b → (a : ChainBlock) × (slice_get xs n ≡ Some a) × (b.block ≡ a.block) × (b.guess ≡ a.guess)

abbrev pub GrowsTo : Validation → Validation → Type 0
GrowsTo x y = Grows x.count x.blocks.items y.count y.blocks.items
