use Rattle.std.proofs.Common.{◌≡◌, ◌∙◌, ◌<◌, ◌≤◌, ℕ, ℤ, List, map, arith, refl, sym, ap, length, subst, Some, slice_get, w64, to_z, of_z}
use Rattle.std.specs.List.{All}
use Rattle.std.proofs.lemmas.Int.{to_z-of_z}
use Rattle.std.proofs.lemmas.List.{length-replicate}
use Rattle.spf_ast.specs.declared.syntax.Program as code_program
use Rattle.spf_ast.specs.Syntax.{Program}
use Rattle.spf_ast.specs.View.{program}
use Rattle.spf_ast.specs.Construct.{Construct, constructs_in}
use Rattle.spf_exec_instance.specs.Layout.{LayoutValue, IsLayoutOf}
use Rattle.spf_exec_instance.specs.Frame.{frame_size}
use Rattle.spf_exec_instance.specs.Instance.{InstanceValue, program_of}
use Rattle.spf_exec.specs.declared.pieces.Header as code
use Rattle.spf_region.specs.declared.span.Span.{Span}
use Rattle.spf_check_rules.specs.Freedom.{IsRollbackFree}
use Rattle.spf_check.specs.Checking.{IsFree}
use Rattle.spf_check.specs.Plans.{AreBlocksOf, IsPlanOf}
use Rattle.spf_cells.specs.declared.view.Setting.{Setting}
use Rattle.spf_cells.specs.Values.{CellsValue, WardenValue}
use Rattle.spf_cells.specs.Made.{new_warden}
use Rattle.spf_speculation_entry.specs.declared.site.Site.{Site}
use Rattle.spf_speculation_entry.specs.Sites.{entry_at, guess_at, RaisesMispredicted}
use Rattle.spf_guess_statistics.specs.declared.guess.Guess.{Guess}
use Rattle.spf_chain.specs.Sites.{IsGround}
use Rattle.spf_chain.specs.Beginning.{IsBegin, AreFirstTickets, site_of, begun}
use Rattle.spf_chain.proofs.Starting.{AreParts, entry-is, made-for, started}
use Rattle.spf_chain.proofs.chain.Chain.start.Goals as goal

parts-of : (i : InstanceValue) (p : code_program.Program) (k : ℕ) (h : code.Header) (frame : List ℤ) (c : Construct) → program_of i ≡ program p → IsFree p → All (λ b. b < 256) i.input → length frame ≡ frame_size (program_of i)
    → slice_get (constructs_in (program_of i).main) k ≡ Some c → AreBlocksOf c h.blocks → AreParts i k h frame c
parts-of i p k h frame c same free bytes size at blocks = record {
  at = at;
  free = subst (λ (q : Program). slice_get (constructs_in q.main) k ≡ Some c → IsRollbackFree q c) (sym same) (free k c) at;
  bytes = bytes;
  size = size;
  blocks = blocks;
}

-- the cells that were made of the plan are ground for the site
ground-of : (i : InstanceValue) (p : code_program.Program) (k : ℕ) (h : code.Header) (low : ℤ) (frame entry : List ℤ) (guesses : List Guess) (c : Construct) (l : LayoutValue) (plan : List (List Span)) (s : Site) (cells : CellsValue)
    → AreParts i k h frame c → program_of i ≡ program p → IsLayoutOf (program_of i) (length i.input) l
    → (slice_get (constructs_in (program p).main) k ≡ Some c → IsPlanOf (program p) c l.extents l.cells low h.blocks plan) → low ≡ h.low
    → cells.setting.plan ≡ plan → cells.setting.entry ≡ entry → s ≡ site_of i k h frame entry guesses → RaisesMispredicted (entry_at s) (guess_at s) cells.setting → h.blocks ≤ 4096
    → IsGround (site_of i k h frame entry guesses) cells
ground-of i p k h low frame entry guesses c l plan s cells parts same layout is low-is plan-is entry-same site raisable few =
    let of : IsPlanOf (program_of i) c l.extents l.cells low h.blocks plan
    = subst (λ (q : Program). slice_get (constructs_in q.main) k ≡ Some c → IsPlanOf q c l.extents l.cells low h.blocks plan) (sym same) is parts.at in
    let mine : IsPlanOf (program_of i) c l.extents l.cells h.low h.blocks cells.setting.plan
    = subst (IsPlanOf (program_of i) c l.extents l.cells h.low h.blocks) (sym plan-is) (subst (λ x. IsPlanOf (program_of i) c l.extents l.cells x h.blocks plan) low-is of) in
    record {
      entry = entry-is i k h frame entry guesses c parts;
      made = made-for i k h frame entry guesses c l cells parts layout mine entry-same;
      raisable = subst (λ (x : Site). RaisesMispredicted (entry_at x) (guess_at x) cells.setting) site raisable;
      few = few;
    }

pub begin-requires : goal.begin-requires
begin-requires c =
    let i = c.args.instance.now in
    let h = c.args.header in
    let s = site_of i c.args.construct h c.args.frame.now c.args.entry.now c.args.guesses.now in
    let low : to_z w64 (of_z w64 h.low) ≡ h.low = grind (arith, to_z-of_z) in
    let bytes : All (λ b. b < 256) i.input = subst (All (λ b. b < 256)) c.input.ensures.same c.are_bytes.ensures in
    let parts = parts-of i c.args.checked.now c.args.construct h c.args.frame.now c.requires.construct.0 c.requires.program c.program-program.ensures.free bytes c.requires.frame c.requires.construct.1 c.requires.construct.2 in
    let setting = c.in_ok-cells.ensures.setting in
    let warden = c.in_ok-cells.ensures.warden in
    let ground : IsGround s c.in_ok-cells.cells =
    ground-of i c.args.checked.now c.args.construct h (to_z w64 (of_z w64 h.low)) c.args.frame.now c.args.entry.now c.args.guesses.now c.requires.construct.0 c.layout-layout.result.now (map (λ v. v.items) c.in_ok-plan.plan.blocks.items) c.key_of_site-site.result.value c.in_ok-cells.cells
    parts c.requires.program c.layout-layout.ensures (c.in_ok-plan.ensures c.requires.construct.0) low (ap (λ (x : Setting). x.plan) setting) (ap (λ (x : Setting). x.entry) setting) c.key_of_site-site.ensures c.in_ok-cells.ensures.raisable c.requires.few in
    let same : (let k : CellsValue = record { table = c.in_ok-cells.warden.table; setting = c.in_ok-cells.warden.setting } in k) ≡ c.in_ok-cells.cells
    = ap (λ (w : WardenValue). let k : CellsValue = record { table = w.table; setting = w.setting } in k) warden in
    let many : length c.in_ok-cells.cells.setting.plan ≡ h.blocks = ground.made.blocks in
    subst (λ (x : Site). IsBegin x c.in_ok-cells.warden h.start c.args.guesses.now) (sym c.key_of_site-site.ensures) record {
      ground = subst (IsGround s) (sym same) ground;
      flags = subst (λ n. h.blocks ≤ n) (sym (ap (λ (w : WardenValue). length w.view.flags) warden ∙ length-replicate (length c.in_ok-cells.cells.setting.plan) 0 ∙ many)) (omega arith);
      none_taken = ap (λ (w : WardenValue). w.view.taken) warden;
      same_start = refl;
      same_guesses = refl;
      count = c.requires.guesses;
    }

pub returns : goal.returns
returns c =
    let i = c.args.instance.now in
    let h = c.args.header in
    let s = site_of i c.args.construct h c.args.frame.now c.args.entry.now c.args.guesses.now in
    let a = c.chain.inside in
    let low : to_z w64 (of_z w64 h.low) ≡ h.low = grind (arith, to_z-of_z) in
    let blocks : c.deref.result.now ≡ a.validation.blocks.items = c.deref.ensures.value in
    started a c.in_ok-chain.chain s c.in_ok-cells.warden (length c.in_ok-cells.cells.setting.plan) c.in_ok-cells.cells c.args.frame.now c.in_ok-tickets.tickets.items
    c.chain.invariant c.chain.view_is
    (c.in_ok-chain.ensures ∙ ap (λ (x : Site). begun x c.in_ok-cells.warden) c.key_of_site-site.ensures)
    (c.in_ok-cells.ensures.warden ∙ ap (new_warden c.in_ok-cells.cells) (sym (ap (λ (x : Setting). length x.plan) c.in_ok-cells.ensures.setting)))
    (subst (λ l. AreFirstTickets c.in_ok-cells.cells l a.validation.blocks.items c.args.frame.now (length a.validation.blocks.items) c.in_ok-tickets.tickets.items) low
    (subst (λ b. AreFirstTickets c.in_ok-cells.cells (to_z w64 (of_z w64 h.low)) b c.args.frame.now (length b) c.in_ok-tickets.tickets.items) blocks c.in_ok-tickets.ensures))
    c.requires.frame refl
