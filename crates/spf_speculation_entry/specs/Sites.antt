-- Sites as entries with guesses.
use Rattle.std.specs.Prelude.{◌≡◌, ◌≢◌, ◌<◌, ℕ, zero, suc, List, [], Option, Some, None, length, pos, slice_get, slice_index_or}
use Rattle.std.specs.List.{Contains}
use Rattle.spf_ast.specs.Carried.{Carried}
use Rattle.spf_ast.specs.Syntax.{Number, no_more, end}
use Rattle.spf_ast.specs.Construct.{Construct, fold, constructs_in}
use Rattle.spf_ast.specs.View.{program}
use Rattle.spf_region.specs.declared.span.Span.{Span}
use Rattle.spf_region.specs.Cells.{in_spans}
use Rattle.spf_cells.specs.declared.view.Setting.{Setting}
use Rattle.spf_speculation_entry.specs.declared.site.Site.{Site}
use Rattle.spf_speculation_entry.specs.Entry.{Entry, own, plain_blocks, begins_at}

-- a placeholder where there is no construct: a fold over rows of no words
abbrev pub construct_or_none : Option Construct → Construct
construct_or_none None = fold 0 (record {
  carried = [];
  start = no_more;
  block = 0;
  low = Number (pos 0);
  high = Number (pos 0);
  predict = [];
  next = no_more;
  next_line = 0;
}) end
construct_or_none (Some construct) = construct

-- the entry of a site
abbrev pub entry_at : Site → Entry
entry_at s = record {
  program = program s.program;
  construct = construct_or_none (slice_get (constructs_in (program s.program).main) s.construct);
  input = s.input;
  slots = s.slots;
  memory = s.memory;
  header = record { low = s.low; blocks = s.blocks; start = s.start };
}

-- the guess for each block; that of block 0, like one that isn't there, is the empty row, which nothing depends on
abbrev pub guess_at : Site → ℕ → Carried
guess_at s zero = []
guess_at s (suc n) = slice_index_or s.guesses n []

-- the guess that was given for a block; block 0 has none
abbrev pub guess_given : Site → ℕ → Option Carried
guess_given s zero = None
guess_given s (suc n) = Some (slice_index_or s.guesses n [])

-- ---- the cells of a construct's blocks

-- cells were made for this entry: they begin as its memory, and their plan has the spans of each block
pub record AreMadeFor (e : Entry) (setting : Setting) : Type 0 where
  pub memory : setting.entry ≡ e.memory
  pub blocks : length setting.plan ≡ e.header.blocks
  pub spans : (n : ℕ) (spans : List Span) (cell : ℕ) → slice_get setting.plan n ≡ Some spans → in_spans spans cell ≡ own e n cell

-- block n is mispredicted: its first attempt doesn't begin at its real row in the plain run, or the plain run doesn't reach the block
abbrev pub IsMispredicted : Entry → (ℕ → Carried) → ℕ → Type 0
IsMispredicted e guess n = slice_get (plain_blocks e).values n ≢ Some (begins_at e guess n)

-- the blocks that may be raised are those that are mispredicted
pub record RaisesMispredicted (e : Entry) (guess : ℕ → Carried) (setting : Setting) : Type 0 where
  pub only : (n : ℕ) → Contains setting.raisable n → IsMispredicted e guess n
  pub all : (n : ℕ) → n < e.header.blocks → IsMispredicted e guess n → Contains setting.raisable n
