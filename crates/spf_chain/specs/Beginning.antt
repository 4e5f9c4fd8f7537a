-- How a chain starts.
use Rattle.std.specs.Prelude.{◌≡◌, ◌+◌, ◌≤◌, ℕ, false, List, [], ◌∷◌, map, length, replicate, Option, Some, None, ℤ, pos, ◌+ℤ◌, slice_get}
use Rattle.spf_ast.specs.Carried as carried
use Rattle.spf_cells.specs.Values.{LaneValue, CellsValue, WardenValue}
use Rattle.spf_cells.specs.Made.{new_lane}
use Rattle.spf_exec_instance.specs.Frame.{main_slots}
use Rattle.spf_exec_instance.specs.Instance.{InstanceValue, program_of}
use Rattle.spf_exec.specs.declared.pieces.Header.{Header}
use Rattle.spf_speculation_entry.specs.declared.site.Site.{Site}
use Rattle.spf_speculation_entry.specs.Sites.{entry_at, guess_at}
use Rattle.spf_ticket.specs.Tickets.{IsFresh}
use Rattle.spf_ticket.specs.declared.ticket.Ticket.{Ticket}
use Rattle.spf_guess_statistics.specs.declared.guess.Guess.{Guess}
use Rattle.spf_chain.specs.declared.block.Settled.TheVariants.{Carried}
use Rattle.spf_chain.specs.declared.block.ChainBlock.{ChainBlock}
use Rattle.spf_chain.specs.Sites.{IsGround}
use Rattle.spf_chain.specs.Chains.{ChainValue, chain_cells}

-- the guess for each block; block 0 has none
abbrev pub guesses_for : List Guess → List (Option carried.Carried)
guesses_for gs = None ∷ map (λ g. Some g.value) gs

-- the row at which a block is attempted first: its guess, or the start row where it has none
abbrev pub first_value : carried.Carried → Option carried.Carried → carried.Carried
first_value start None = start
first_value start (Some guess) = guess

-- each block from n on with its guess and the row of its first attempt
abbrev pub unvalidated : ℕ → carried.Carried → List (Option carried.Carried) → List ChainBlock
unvalidated n start [] = []
unvalidated n start (g ∷ gs) = record { block = n; guess = g; row = first_value start g } ∷ unvalidated (n + 1) start gs

-- the warden's cells were made for the site, which has this start row and these guesses; the warden has all flags and took nothing over
pub record IsBegin (s : Site) (w : WardenValue) (start : carried.Carried) (guesses : List Guess) : Type 0 where
  pub ground : IsGround s (record { table = w.table; setting = w.setting })
  pub flags : s.blocks ≤ length w.view.flags
  pub none_taken : w.view.taken ≡ []
  pub same_start : start ≡ s.start
  pub same_guesses : s.guesses ≡ map (λ g. g.value) guesses
  pub count : length guesses + 1 ≡ s.blocks

-- the chain when it starts: all blocks are out, none is validated, and no report was filed
abbrev pub begun : Site → WardenValue → ChainValue
begun s w = record { site = s; warden = w; homes = replicate s.blocks None; again = false; history = []; settled = Carried s.start; reports = 0 }

-- the site of a construct of this number, whose header is done, with these slots and this memory at its entry
abbrev pub site_of : InstanceValue → ℕ → Header → List ℤ → List ℤ → List Guess → Site
site_of i construct h frame entry guesses = record {
  program = i.source;
  construct = construct;
  input = i.input;
  slots = main_slots (program_of i) frame;
  memory = entry;
  low = h.low;
  blocks = h.blocks;
  start = h.start;
  guesses = map (λ g. g.value) guesses;
}

-- the ticket of the first attempt of block n: at the block's first row, with this lane and this frame
pub record IsFirstTicket (lane : LaneValue) (low : ℤ) (blocks : List ChainBlock) (frame : List ℤ) (n : ℕ) (t : Ticket) : Type 0 where
  pub block : t.block ≡ n
  pub number : t.number ≡ low +ℤ pos n
  pub attempt : t.attempt ≡ 1
  pub carried : (b : ChainBlock) × (slice_get blocks n ≡ Some b) × (t.carried ≡ b.row)
  pub own_lane : t.lane ≡ lane
  pub own_frame : t.frame ≡ frame

-- these are the tickets of the first attempts of the first `count` blocks, in their order, with lanes that have logged nothing
pub record AreFirstTickets (cells : CellsValue) (low : ℤ) (blocks : List ChainBlock) (frame : List ℤ) (count : ℕ) (tickets : List Ticket) : Type 0 where
  pub size : length tickets ≡ count
  pub each : (n : ℕ) (t : Ticket) → slice_get tickets n ≡ Some t → IsFirstTicket (new_lane cells n) low blocks frame n t

-- The chain, its cells and its tickets when the blocks of a site start: all tickets are out and fresh, in the order
-- of blocks, each with its first attempt; no block is validated, and no report was filed; the cells were made for the
-- site, and no flag is raised.
pub record IsStarted (s : Site) (c : ChainValue) (cells : CellsValue) (tickets : List Ticket) : Type 0 where
  pub chain : c ≡ begun s c.warden
  pub its_cells : cells ≡ chain_cells c
  pub ground : IsGround s cells
  pub flags : c.warden.view.flags ≡ replicate s.blocks 0
  pub count : length tickets ≡ s.blocks
  pub blocks : (n : ℕ) (t : Ticket) → slice_get tickets n ≡ Some t → (t.block ≡ n) × (t.attempt ≡ 1)
  pub fresh : (n : ℕ) (t : Ticket) → slice_get tickets n ≡ Some t → IsFresh (entry_at s) (guess_at s) cells t
