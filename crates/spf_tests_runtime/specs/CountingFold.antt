-- A program whose blocks only make turns, with the cells and the entry of its blocks.
use Rattle.std.specs.Prelude.{List, [], ◌∷◌, codes, pos}
use Rattle.spf_ast.specs.Syntax.{Number, Local, no_more, argument, For, Fold, Emit, By, FoldHead, Block, end, on_line, Program}
use Rattle.spf_ast.specs.Construct.{Construct, fold}
use Rattle.spf_ast.specs.Event.{Event, Turn}
use Rattle.spf_region.specs.declared.span.Span.{Span}
use Rattle.spf_cells.specs.declared.view.Setting.{Setting}
use Rattle.spf_speculation_entry.specs.Entry.{Entry}

abbrev pub counting_head : FoldHead
counting_head = record {
  carried = 0 ∷ [];
  start = argument (Number (pos 1)) no_more;
  block = 1;
  low = Number (pos 0);
  high = Number (pos 2);
  predict = By (Number (pos 5)) ∷ [];
  next = argument (Number (pos 1)) no_more;
  next_line = 1;
}

abbrev pub counting_body : Block
counting_body = on_line 1 (For 2 (Number (pos 0)) (Local 0) end) end

-- specfold s = 1 for k in 0..2 predict 5 { for i in 0..s { } next 1; }
abbrev pub counting_fold : Construct
counting_fold = fold 1 counting_head counting_body

-- the fold, and then `emit s;`
abbrev pub counting : Program
counting = record {
  version = 1;
  arrays = [];
  functions = [];
  slots = codes "s" ∷ codes "k" ∷ codes "i" ∷ [];
  main = on_line 1 (Fold counting_head counting_body) (on_line 1 (Emit (Local 0)) end);
}

-- two blocks with no cells
abbrev pub no_cells : List (List Span)
no_cells = [] ∷ [] ∷ []

-- block 1 may be raised
abbrev pub counting_setting : Setting
counting_setting = record { plan = no_cells; entry = []; raisable = 1 ∷ [] }

-- the fold's entry
abbrev pub counting_entry : Entry
counting_entry = record {
  program = counting;
  construct = counting_fold;
  input = [];
  slots = pos 0 ∷ pos 0 ∷ pos 0 ∷ [];
  memory = [];
  header = record { low = pos 0; blocks = 2; start = pos 1 ∷ [] };
}

-- five turns that polled 0
abbrev pub five_turns : List Event
five_turns = Turn 0 ∷ Turn 0 ∷ Turn 0 ∷ Turn 0 ∷ Turn 0 ∷ []
