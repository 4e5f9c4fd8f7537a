-- Forms that go on: none of their answers is that they broke off.
use Rattle.std.specs.Prelude.{◌≡◌, ℕ, Bool, false, Option, Some, None, ℤ, slice_get}
use Rattle.spf_ast.specs.Interaction.{Interaction, Answer, AskLoad, AskStore, AskTurn, Flow, Onward, Broken, Ending, Value, Trapped, State}
use Rattle.spf_ast.specs.Syntax.{Statement, If, For, While, Fold, Pair, Block, end, on_line, Function, Program}
use Rattle.spf_ast.specs.Meaning.{Environment, block_means}
use Rattle.spf_ast.specs.Slots.{breaks}
use Rattle.spf_ast.specs.Lawful.{IsLawful, Names, Scope, IsLawfulBlock, FoldHasOneWidth, PairHasOneWidth}

-- a tree never answers that it broke off
abbrev pub GoesOn : Interaction (Ending Flow) → Type 0
GoesOn (Answer (Value Onward state)) = Unit {0}
GoesOn (Answer (Value Broken state)) = ⊥
GoesOn (Answer (Trapped trap output)) = Unit {0}
GoesOn (AskLoad cell given) = (word : ℤ) → GoesOn (given word)
GoesOn (AskStore cell word then_) = GoesOn then_
GoesOn (AskTurn then_) = GoesOn then_

-- a block that holds no `break` of a loop around it goes on, in each environment and from each state
abbrev pub BlocksWithoutBreakGoOn : Type 0
BlocksWithoutBreakGoOn = (g : Environment) (block : Block) → breaks block ≡ false → (state : State) → GoesOn (block_means g block state)

-- ---- programs

abbrev mutual
  -- the lists of each construct within a statement are as long as its names, and no part of it holds a `break` of a loop around the construct
  pub StatementIsOrderly : Statement → Type 0
  StatementIsOrderly (If test first second) = BlockIsOrderly first × BlockIsOrderly second
  StatementIsOrderly (For slot low high body) = BlockIsOrderly body
  StatementIsOrderly (While test most body) = BlockIsOrderly body
  StatementIsOrderly (Fold head body) = FoldHasOneWidth head × (breaks body ≡ false) × BlockIsOrderly body
  StatementIsOrderly (Pair head producer consumer) =
      PairHasOneWidth head × (breaks producer ≡ false) × (breaks consumer ≡ false) × BlockIsOrderly producer × BlockIsOrderly consumer
  StatementIsOrderly _ = Unit {0}

  -- and the same in a block
  pub BlockIsOrderly : Block → Type 0
  BlockIsOrderly end = Unit {0}
  BlockIsOrderly (on_line line first rest) = StatementIsOrderly first × BlockIsOrderly rest

-- a function breaks off no loop around it, where it is there
abbrev pub FunctionIsOrderly : Option Function → Type 0
FunctionIsOrderly None = Unit {0}
FunctionIsOrderly (Some f) = (breaks f.body ≡ false) × BlockIsOrderly f.body

-- each construct of a program has one width, and each `break` ends a loop of the same function, of the same part of a construct, or of `main` outside of constructs
pub record IsOrderly (p : Program) : Type 0 where
  pub functions : (index : ℕ) → FunctionIsOrderly (slice_get p.functions index)
  pub main : BlockIsOrderly p.main

-- so it is in a lawful program
abbrev pub LawfulProgramsAreOrderly : Type 0
LawfulProgramsAreOrderly = (p : Program) → IsLawful p → IsOrderly p

-- a lawful block outside of loops holds none
abbrev pub LawfulBlocksKeepTheirBreaks : Type 0
LawfulBlocksKeepTheirBreaks = (names : Names) (in_main : Bool) (scope : Scope) (block : Block) → IsLawfulBlock names in_main scope block → scope.in_loop ≡ false → breaks block ≡ false
