-- What contracts see of a chain.
use Rattle.std.specs.Prelude.{
  ◌≡◌,
  ◌≢◌,
  ◌⊎◌,
  ◌↔◌,
  ℕ,
  ◌<◌,
  Bool,
  true,
  false,
  ◌==◌,
  if◌then◌else◌,
  List,
  ◌++◌,
  length,
  map,
  slice_get,
  slice_index,
  slice_set,
  max,
  Option,
  Some,
  None,
}
use Rattle.spf_ast_lemmas.specs.Counts.{one_more}
use Rattle.spf_ast.specs.declared.outcome.Trap.{Trap}
use Rattle.spf_cells.specs.Values.{CellsValue, WardenValue}
use Rattle.spf_chain.specs.declared.block.Settled.{Settled}
use Rattle.spf_chain.specs.declared.block.Settled.TheVariants.{Carried, Trapped}
use Rattle.spf_chain.specs.declared.block.ChainBlock.{ChainBlock}
use Rattle.spf_speculation_entry.specs.Entry.{begins_at}
use Rattle.spf_ticket.specs.Tickets.{IsFresh}
use Rattle.spf_ticket.specs.declared.ticket.Report.{Report}
use Rattle.spf_ticket.specs.declared.ticket.Ticket.{Ticket}
use Rattle.spf_chain.specs.declared.chain.Filed.{Filed}
use Rattle.spf_chain.specs.declared.chain.Filed.TheVariants.{Rerun, Waiting, Ended}
use Rattle.spf_speculation_entry.specs.declared.site.Site.{Site}
use Rattle.spf_speculation_entry.specs.Sites.{entry_at, guess_at}
use Rattle.spf_ast.specs.Carried as carried
use Rattle.spf_chain.specs.Homes.{known_in, log_in}
use Rattle.spf_chain.specs.Standing.{HasValidated}

-- the site, the warden, the reports that are home, whether the second attempt of the next block to be validated is
-- out, the validated blocks, the real row of the next block or the trap of the last one, and how many reports were
-- filed
pub record ChainValue : Type 0 where
  pub site : Site
  pub warden : WardenValue
  pub homes : List (Option Report)
  pub again : Bool
  pub history : List ChainBlock
  pub settled : Settled
  pub reports : ℕ

-- the cells of a chain
abbrev pub chain_cells : ChainValue → CellsValue
chain_cells c = record { table = c.warden.table; setting = c.warden.setting }

-- the next block: the first that isn't validated
abbrev pub next_block : ChainValue → ℕ
next_block c = length c.history

-- ---- where blocks are

-- the block's ticket is out
abbrev pub IsOut : ChainValue → ℕ → Type 0
IsOut c n = slice_get c.homes n ≡ Some None

-- it is out with its first attempt
pub record IsOutFirst (c : ChainValue) (n : ℕ) : Type 0 where
  pub out : IsOut c n
  pub first : c.again ≡ true → n ≢ next_block c

-- a validated block has trapped
pub record HasTrapped (c : ChainValue) : Type 0 where
  pub trap : Trap
  pub trapped : c.settled ≡ Trapped trap

-- ---- what is to be done

-- the next block's first attempt is home, and it wasn't at the real row
pub record NeedsRerun (c : ChainValue) (real : carried.Carried) (r : Report) : Type 0 where
  pub home : slice_get c.homes (next_block c) ≡ Some (Some r)
  pub first : r.ticket.attempt ≡ 1
  pub guess : r.ticket.carried ≡ begins_at (entry_at c.site) (guess_at c.site) (next_block c)
  pub real_value : c.settled ≡ Carried real
  pub wrong : r.ticket.carried ≢ real

-- the block is out, and is the next one to be validated or, after a trap, the lowest one that is out
pub record WaitsFor (c : ChainValue) (block : ℕ) : Type 0 where
  pub out : IsOut c block
  pub awaited : (block ≡ next_block c) ⊎ (HasTrapped c × ((n : ℕ) → n < block → IsOut c n → ⊥))

-- all blocks are validated or one has trapped, and all tickets are home
pub record HasEnded (c : ChainValue) : Type 0 where
  pub home : (n : ℕ) → IsOut c n → ⊥
  pub done : (next_block c ≡ c.site.blocks) ⊎ HasTrapped c

-- ---- flags

-- the flag of the block is to be raised: its first attempt is out, and it is the next one to be validated, with
-- another real row than its guess, or a block before it trapped
pub record IsToRaise (c : ChainValue) (n : ℕ) : Type 0 where
  pub out : IsOutFirst c n
  pub why : ((n ≡ next_block c) × (real : carried.Carried) × (c.settled ≡ Carried real)
      × (begins_at (entry_at c.site) (guess_at c.site) n ≢ real)) ⊎ HasTrapped c

-- the warden with other flags
abbrev pub with_flags : WardenValue → List ℕ → WardenValue
with_flags w flags = record w { view = record w.view { flags = flags } }

-- the flags of these blocks are raised, and no others
pub record HasRaised (these : ℕ → Type 0) (before after : WardenValue) : Type 0 where
  pub flags : List ℕ
  pub same : after ≡ with_flags before flags
  pub size : length flags ≡ length before.view.flags
  pub raised : (n : ℕ) → n < length flags → these n → slice_index flags n ≡ max (slice_index before.view.flags n) 1
  pub kept : (n : ℕ) → (these n → ⊥) → slice_index flags n ≡ slice_index before.view.flags n

-- the flags that are to be raised are, and no others
pub record Raises (before after : ChainValue) : Type 0 where
  pub warden : WardenValue
  pub same : after ≡ record before { warden = warden }
  pub raised : HasRaised (IsToRaise before) before.warden warden

-- ---- steps of a chain

-- a report comes home
abbrev pub came_home : ChainValue → Report → ChainValue
came_home c r = record c {
  homes = slice_set c.homes r.ticket.block (Some r);
  again = if r.ticket.block == next_block c then false else c.again;
  reports = one_more c.reports;
}

-- the next block's second attempt goes out
abbrev pub sent_again : ChainValue → ChainValue
sent_again c = record c { homes = slice_set c.homes (next_block c) None; again = true }

-- the validated blocks are a prefix of the plain run, at their real rows; it goes on with this row, or its last block trapped
abbrev pub IsPrefix : ChainValue → Type 0
IsPrefix c = HasValidated (entry_at c.site) (guess_at c.site) (log_in c.homes) (next_block c) (map (λ b. b.row) c.history) c.settled

-- blocks that are home and were run at their real rows are validated in order, and no further block can be
pub record Validates (before after : ChainValue) : Type 0 where
  pub same : after ≡ record before { history = after.history; settled = after.settled }
  pub more : List ChainBlock
  pub grown : after.history ≡ before.history ++ more
  pub prefix : IsPrefix after
  pub done : (v : carried.Carried) → after.settled ≡ Carried v → known_in v (slice_get after.homes (next_block after)) ≡ None

-- the ticket runs the next block again, at its real row
pub record IsAgain (c : ChainValue) (real : carried.Carried) (t : Ticket) : Type 0 where
  pub fresh : IsFresh (entry_at c.site) (guess_at c.site) (chain_cells c) t
  pub block : t.block ≡ next_block c
  pub attempt : t.attempt ≡ 2
  pub carried : t.carried ≡ real

-- what the answer says of the chain, and the chain after it
abbrev pub IsFiledAnswer : ChainValue → Filed → ChainValue → Type 0
IsFiledAnswer c (Rerun t) d = (real : carried.Carried) × (r : Report) × NeedsRerun c real r × IsAgain c real t × (d ≡ sent_again c)
IsFiledAnswer c (Waiting block) d = WaitsFor c block × (d ≡ c)
IsFiledAnswer c Ended d = HasEnded c × (d ≡ c)

-- each answer comes exactly where its cause holds of the chain
pub record IsExact (c : ChainValue) (answer : Filed) : Type 0 where
  pub rerun : ((t : Ticket) × (answer ≡ Rerun t)) ↔ ((real : carried.Carried) × (r : Report) × NeedsRerun c real r)
  pub waiting : (block : ℕ) → (answer ≡ Waiting block) ↔ WaitsFor c block
  pub ended : (answer ≡ Ended) ↔ HasEnded c

-- the chain is of the same site, with the same cells
pub record IsSameChain (before after : ChainValue) : Type 0 where
  pub site : after.site ≡ before.site
  pub cells : chain_cells after ≡ chain_cells before

-- A report was filed: it came home, blocks were validated, flags were raised, and then this was the answer, exactly
-- where its cause held. After a trap nothing more is validated; the second attempt of the next block to be validated
-- always validates it.
pub record IsFiled (before : ChainValue) (r : Report) (answer : Filed) (after : ChainValue) : Type 0 where
  pub validated : ChainValue
  pub validates : Validates (came_home before r) validated
  pub after_trap : HasTrapped before → validated ≡ came_home before r
  pub second : r.ticket.attempt ≡ 2 → r.ticket.block ≡ next_block before → next_block before < next_block validated
  pub raised : ChainValue
  pub raises : Raises validated raised
  pub answers : IsFiledAnswer raised answer after
  pub exact : IsExact raised answer
