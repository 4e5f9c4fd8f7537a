-- Whether a chain has ended, as a truth value that the crew's words agree with.
use Rattle.std.specs.Prelude.{Bool, true, false, ◌&&◌, ◌||◌, ◌==◌, List, [], ◌∷◌, Option, Some, None}
use Rattle.spf_ticket.specs.declared.ticket.Report.{Report}
use Rattle.spf_chain.specs.declared.block.Settled.{Settled}
use Rattle.spf_chain.specs.declared.block.Settled.TheVariants.{Carried, Trapped}
use Rattle.spf_chain.specs.Chains.{ChainValue, next_block}

-- every report is home
abbrev pub all_home : List (Option Report) → Bool
all_home [] = true
all_home (None ∷ homes) = false
all_home (Some r ∷ homes) = all_home homes

-- a validated block has trapped
abbrev pub is_trapped : Settled → Bool
is_trapped (Carried v) = false
is_trapped (Trapped t) = true

-- all tickets are home, and all blocks are validated or one has trapped
abbrev pub has_ended : ChainValue → Bool
has_ended c = all_home c.homes && (next_block c == c.site.blocks || is_trapped c.settled)
