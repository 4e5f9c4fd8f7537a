-- What a chain is made for.
use Rattle.std.specs.Prelude.{◌≤◌}
use Rattle.spf_ast.specs.Meaning.{max_blocks}
use Rattle.spf_cells.specs.Values.{CellsValue}
use Rattle.spf_speculation_entry.specs.declared.site.Site.{Site}
use Rattle.spf_speculation_entry.specs.Entry.{IsEntry}
use Rattle.spf_speculation_entry.specs.Sites.{entry_at, guess_at, AreMadeFor, RaisesMispredicted}

-- the cells were made for the site: they begin as its memory, they have the spans of its blocks, and the mispredicted blocks may be raised
pub record IsGround (s : Site) (c : CellsValue) : Type 0 where
  pub entry : IsEntry (entry_at s)
  pub made : AreMadeFor (entry_at s) c.setting
  pub raisable : RaisesMispredicted (entry_at s) (guess_at s) c.setting
  pub few : s.blocks ≤ max_blocks
