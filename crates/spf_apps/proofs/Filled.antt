-- A body that begins with a fill of its block's cells.
use Rattle.std.proofs.Common.{◌≡◌, ℕ, ◌≤◌, true, ℤ, pos}
use Rattle.std.specs.Prelude.{◌≤ℤ◌, ◌<ℤ◌, List}
use Rattle.spf_region.specs.declared.bound.Bound.{Bound}
use Rattle.spf_region.specs.declared.bound.Bound.TheVariants.{Known}
use Rattle.spf_ast.specs.Syntax.{Expression, Arguments, Fill, Block, on_line}
use Rattle.spf_effects_findings.specs.Found.{writes_range, nowhere, ◌then◌}
use Rattle.spf_effects_findings.specs.Forms.{Setting, expression_bound, expression_finds, statement_finds, block_finds, bounds_at_end, block_then_row, arguments_find}
use Rattle.spf_apps.proofs.Tame.{IsTame, CallsAreTame, StoresIn, avoids, avoid, tame-then, reads_only, row_reads_only, block-tame}
use Rattle.spf_apps.proofs.Rules.{IsInside}
use Rattle.spf_apps.proofs.Ends.{range-tame, range-fills}

-- what is known of such a body, whose blocks have `count` cells each
pub record BeginsWithFill (g : Setting) (slots : List Bound) (array count : ℕ) (low high value : Expression) (rest : Block) (next : Arguments) : Type 0 where
  pub calls : CallsAreTame array g
  pub some : 1 ≤ count
  pub low_is : expression_bound g slots low ≡ Known (pos count) (pos 0) (pos 0)
  pub high_is : expression_bound g slots high ≡ Known (pos count) (pos count) (pos count)
  pub low_avoids : avoids array low ≡ true
  pub high_avoids : avoids array high ≡ true
  pub value_avoids : avoids array value ≡ true
  pub stores : StoresIn array (IsInside array (pos count)) g slots rest
  pub next_avoids : avoid array next ≡ true

pub filled-tame : (g : Setting) (slots : List Bound) (array count line : ℕ) (low high value : Expression) (rest : Block) (next : Arguments) → BeginsWithFill g slots array count low high value rest next → IsTame array (IsInside array (pos count)) (block_then_row g slots (on_line line (Fill array low high value) rest) next)
filled-tame g slots array count line low high value rest next d =
    let P = IsInside array (pos count) in
    let range = writes_range array (expression_bound g slots low) (expression_bound g slots high) in
    let reads = reads_only array P g slots d.calls in
    tame-then array P (statement_finds g slots (Fill array low high value) then block_finds g slots rest) (arguments_find g (bounds_at_end g slots rest) next)
    (tame-then array P (statement_finds g slots (Fill array low high value)) (block_finds g slots rest)
    (tame-then array P (expression_finds g slots low) (expression_finds g slots high then (expression_finds g slots value then range)) (reads low d.low_avoids)
    (tame-then array P (expression_finds g slots high) (expression_finds g slots value then range) (reads high d.high_avoids)
    (tame-then array P (expression_finds g slots value) range (reads value d.value_avoids)
    (range-tame array count d.some (expression_bound g slots low) (expression_bound g slots high) d.low_is d.high_is))))
    (block-tame array P g slots d.calls rest d.stores))
    (row_reads_only array P g (bounds_at_end g slots rest) d.calls next d.next_avoids)

pub filled-fills : (g : Setting) (slots : List Bound) (array count line : ℕ) (low high value : Expression) (rest : Block) (next : Arguments) → BeginsWithFill g slots array count low high value rest next → (o : ℤ) → pos 0 ≤ℤ o → o <ℤ pos count → (block_then_row g slots (on_line line (Fill array low high value) rest) next nowhere).written array (pos count) o ≡ true
filled-fills g slots array count line low high value rest next d o from to =
    let P = IsInside array (pos count) in
    let before = (expression_finds g slots value (expression_finds g slots high (expression_finds g slots low nowhere).written).written).written in
    let filled = (writes_range array (expression_bound g slots low) (expression_bound g slots high) before).written in
    let behind = (block_finds g slots rest filled).written in
    (row_reads_only array P g (bounds_at_end g slots rest) d.calls next d.next_avoids).keeps behind array (pos count) o
    ((block-tame array P g slots d.calls rest d.stores).keeps filled array (pos count) o
    (range-fills array count d.some (expression_bound g slots low) (expression_bound g slots high) d.low_is d.high_is before o from to))
