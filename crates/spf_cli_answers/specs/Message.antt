-- The lines that the program writes on the error stream.
use Rattle.std.specs.Prelude.{ℕ, List, [], ◌∷◌, ◌++◌, take, drop, codes, ℤ, Option}
use Rattle.std.specs.Fmt.{decimal, signed_decimal}
use Rattle.spf_ast.specs.declared.outcome.Trap.{Trap}
use Rattle.spf_types_names.specs.declared.fault.TypeFault.{TypeFault}
use Rattle.spf_types_names.specs.declared.fault.TypeFault.TheVariants as fault
use Rattle.spf_ast.specs.Syntax.{Array}
use Rattle.spf_region.specs.declared.range.Range.{Range}
use Rattle.spf_check.specs.declared.rule.Rule.{Rule}
use Rattle.spf_check.specs.Text.{rule_name, perhaps_range}
use Rattle.spf_ast.specs.Program.{size_of}
use Rattle.spf_guess_statistics.specs.declared.stats.Stats.{Stats}
use Rattle.spf_batch.specs.Text.{line, kind_name}
use Rattle.spf_replay.specs.Limits.{max_steps}
use Rattle.spf_replay.specs.declared.verdict.Verdict.{Verdict}
use Rattle.spf_replay.specs.declared.verdict.Verdict.TheVariants.{Yes, No}

-- `trap KIND line N`
abbrev pub trap_line : Trap → List ℕ
trap_line t = line (codes "trap " ∷ kind_name t.kind ∷ codes " line " ∷ decimal t.line ∷ [])

-- `words not understood`
abbrev pub words_line : List ℕ
words_line = line (codes "words not understood" ∷ [])

-- `file NAME failed`
abbrev pub failed_line : List ℕ → List ℕ
failed_line name = line (codes "file " ∷ name ∷ codes " failed" ∷ [])

-- `file NAME over N bytes`
abbrev pub long_line : List ℕ → ℕ → List ℕ
long_line name limit = line (codes "file " ∷ name ∷ codes " over " ∷ decimal limit ∷ codes " bytes" ∷ [])

-- `cells N over LIMIT`
abbrev pub too_many_line : (count limit : ℕ) → List ℕ
too_many_line count limit = line (codes "cells " ∷ decimal count ∷ codes " over " ∷ decimal limit ∷ [])

-- `host N not handed in`
abbrev pub host_line : ℕ → List ℕ
host_line host = line (codes "host " ∷ decimal host ∷ codes " not handed in" ∷ [])

-- `input byte N: not HUF1`
abbrev pub not_huf1_line : ℕ → List ℕ
not_huf1_line offset = line (codes "input byte " ∷ decimal offset ∷ codes ": not HUF1" ∷ [])

-- `machine byte N: not LEX1`
abbrev pub not_lex1_line : ℕ → List ℕ
not_lex1_line offset = line (codes "machine byte " ∷ decimal offset ∷ codes ": not LEX1" ∷ [])

-- `not a machine`
abbrev pub not_machine_line : List ℕ
not_machine_line = line (codes "not a machine" ∷ [])

-- `list line N: not a name`
abbrev pub not_name_line : ℕ → List ℕ
not_name_line number = line (codes "list line " ∷ decimal number ∷ codes ": not a name" ∷ [])

-- `log byte N: not SPL1`
abbrev pub not_log_line : ℕ → List ℕ
not_log_line offset = line (codes "log byte " ∷ decimal offset ∷ codes ": not SPL1" ∷ [])

-- `steps over LIMIT`
abbrev pub steps_line : List ℕ
steps_line = line (codes "steps over " ∷ decimal max_steps ∷ [])

-- `yes`, or `no section N`
abbrev pub verdict_line : Verdict → List ℕ
verdict_line Yes = line (codes "yes" ∷ [])
verdict_line (No section) = line (codes "no section " ∷ decimal section ∷ [])

-- `sum S blocks B hits H misses M`
abbrev pub sum_line : ℕ → ℕ → ℕ → ℕ → List ℕ
sum_line sum blocks hits misses =
    line (codes "sum " ∷ decimal sum ∷ codes " blocks " ∷ decimal blocks ∷ codes " hits " ∷ decimal hits ∷ codes " misses " ∷ decimal misses ∷ [])

-- `accepted`
abbrev pub accepted_line : List ℕ
accepted_line = line (codes "accepted" ∷ [])

-- `refused RULE line N RANGE`, or without a range `refused RULE line N`
abbrev pub rule_line : List Array → Rule → ℕ → Option Range → List ℕ
rule_line arrays rule at range =
    line (codes "refused " ∷ rule_name rule ∷ codes " line " ∷ decimal at ∷ perhaps_range arrays range ∷ [])

-- `text byte N: FAULT`
abbrev pub byte_line : ℕ → List ℕ → List ℕ
byte_line at what = line (codes "text byte " ∷ decimal at ∷ codes ": " ∷ what ∷ [])

-- the name of a fault of names and kinds
abbrev pub fault_name : TypeFault → List ℕ
fault_name fault.UnknownName = codes "unknown name"
fault_name fault.Twice = codes "declared twice"
fault_name fault.Arity = codes "wrong number of arguments"
fault_name fault.Kind = codes "wrong kind"
fault_name fault.CallsLater = codes "calls later function"
fault_name fault.TooLarge = codes "too large"
fault_name fault.Misplaced = codes "misplaced emit"
fault_name fault.MisplacedBreak = codes "misplaced break"

-- `line N: FAULT`
abbrev pub fault_line : TypeFault → ℕ → List ℕ
fault_line what at = line (codes "line " ∷ decimal at ∷ codes ": " ∷ fault_name what ∷ [])

-- `blocks B hits H misses M blind D`
abbrev pub stats_line : ℕ → ℕ → ℕ → ℕ → List ℕ
stats_line blocks hits misses blind =
    line (codes "blocks " ∷ decimal blocks ∷ codes " hits " ∷ decimal hits ∷ codes " misses " ∷ decimal misses ∷ codes " blind " ∷ decimal blind ∷ [])

-- `files F blocks B hits H misses M blind D`
abbrev pub files_line : ℕ → Stats → List ℕ
files_line count stats =
    line (codes "files " ∷ decimal count ∷ codes " blocks " ∷ decimal stats.blocks ∷ codes " hits " ∷ decimal stats.hits
    ∷ codes " misses " ∷ decimal stats.misses ∷ codes " blind " ∷ decimal stats.blind ∷ [])

-- numbers, each after a space
abbrev pub numbers : List ℤ → List ℕ
numbers [] = []
numbers (word ∷ words) = codes " " ++ (signed_decimal word ++ numbers words)

-- `cells NAME`, followed by the words of an array
abbrev pub array_line : List ℕ → List ℤ → List ℕ
array_line name words = line (codes "cells " ∷ name ∷ numbers words ∷ [])

-- the lines of arrays whose cells follow each other, for an input of this length
abbrev pub array_lines : ℕ → List Array → List ℤ → List (List ℕ)
array_lines len [] cells = []
array_lines len (a ∷ rest) cells =
    array_line a.name (take (size_of len a) cells) ∷ array_lines len rest (drop (size_of len a) cells)
