-- What a chain starts with.
use Rattle.std.proofs.Common.{◌≡◌, ◌<◌, ℕ, List, length, refl, sym, ap, ◌∙◌, subst, Some, ℤ, pos, ◌+ℤ◌, arith, slice_get}
use Rattle.std.specs.Prelude.{replicate}
use Rattle.std.specs.List.{All}
use Rattle.spf_ast_lemmas.proofs.Indices.{index-within}
use Rattle.std.proofs.lemmas.List.{length-take-le}
use Rattle.spf_ast.specs.View.{program}
use Rattle.spf_ast.specs.Construct.{Construct, fold, pair, Header, constructs_in, part_of}
use Rattle.spf_ast.specs.Program.{extents_of}
use Rattle.spf_ast_laws.specs.Agreement.{AgreeOutside}
use Rattle.spf_exec_instance.specs.Layout.{LayoutValue, IsLayoutOf}
use Rattle.spf_exec_instance.specs.Frame.{frame_size, main_slots}
use Rattle.spf_exec_instance.specs.Instance.{InstanceValue, program_of}
use Rattle.spf_exec.specs.declared.pieces.Header as code
use Rattle.spf_region.specs.declared.span.Span.{Span}
use Rattle.spf_region.specs.Cells.{cells_at}
use Rattle.spf_check_rules.specs.Rules.{may_write}
use Rattle.spf_check_rules.specs.Freedom.{IsRollbackFree}
use Rattle.spf_check.specs.Plans.{AreBlocksOf, IsPlanOf}
use Rattle.spf_cells.specs.Log.{events}
use Rattle.spf_cells.specs.Laws.{IsAscendingPlan}
use Rattle.spf_cells.specs.Values.{LaneValue, CellsValue, WardenValue}
use Rattle.spf_cells.specs.Made.{new_lane, new_warden}
use Rattle.spf_speculation_entry.specs.declared.site.Site.{Site}
use Rattle.spf_speculation_entry.specs.Entry.{HasItsBlocks, IsEntry, begins_at}
use Rattle.spf_speculation_entry.specs.Sites.{construct_or_none, entry_at, guess_at, AreMadeFor}
use Rattle.spf_ticket.specs.Tickets.{IsFresh, first}
use Rattle.spf_ticket.specs.declared.ticket.Ticket.{Ticket}
use Rattle.spf_guess_statistics.specs.declared.guess.Guess.{Guess}
use Rattle.spf_chain.specs.declared.block.ChainBlock.{ChainBlock}
use Rattle.spf_chain.specs.Sites.{IsGround}
use Rattle.spf_chain.specs.declared.chain.Chain.TheInside.{Inside}
use Rattle.spf_chain.specs.Chains.{ChainValue, chain_cells, next_block}
use Rattle.spf_chain.specs.Kept.{chain_value, cells_inside, IsListed, IsKept}
use Rattle.spf_chain.proofs.Keeping.{next-is}
use Rattle.spf_chain.specs.Beginning.{site_of, begun, IsFirstTicket, AreFirstTickets, IsStarted}

-- what the site is made of: the construct of its number, which is rollback free, an input of bytes, and a frame
pub record AreParts (i : InstanceValue) (k : ℕ) (h : code.Header) (frame : List ℤ) (c : Construct) : Type 0 where
  pub at : slice_get (constructs_in (program_of i).main) k ≡ Some c
  pub free : IsRollbackFree (program_of i) c
  pub bytes : All (λ b. b < 256) i.input
  pub size : length frame ≡ frame_size (program_of i)
  pub blocks : AreBlocksOf c h.blocks

its-blocks : (c : Construct) (h : Header) → AreBlocksOf c h.blocks → HasItsBlocks c h
its-blocks (fold line head body) h b = tt
its-blocks (pair line head producer consumer) h b = b

construct-is : (i : InstanceValue) (k : ℕ) (c : Construct) → slice_get (constructs_in (program_of i).main) k ≡ Some c → construct_or_none (slice_get (constructs_in (program_of i).main) k) ≡ c
construct-is i k c at = ap construct_or_none at

pub entry-is : (i : InstanceValue) (k : ℕ) (h : code.Header) (frame entry : List ℤ) (guesses : List Guess) (c : Construct) → AreParts i k h frame c → IsEntry (entry_at (site_of i k h frame entry guesses))
entry-is i k h frame entry guesses c parts =
    let e = construct-is i k c parts.at in
    record {
      free = subst (IsRollbackFree (program_of i)) (sym e) parts.free;
      bytes = parts.bytes;
      slots = length-take-le (length (program_of i).slots) frame (omega (arith, parts.size));
      blocks = subst (λ x. HasItsBlocks x (record { low = h.low; blocks = h.blocks; start = h.start })) (sym e) (its-blocks c (record { low = h.low; blocks = h.blocks; start = h.start }) parts.blocks);
    }

pub made-for : (i : InstanceValue) (k : ℕ) (h : code.Header) (frame entry : List ℤ) (guesses : List Guess) (c : Construct) (l : LayoutValue) (cells : CellsValue) → AreParts i k h frame c
    → IsLayoutOf (program_of i) (length i.input) l → IsPlanOf (program_of i) c l.extents l.cells h.low h.blocks cells.setting.plan → cells.setting.entry ≡ entry
    → AreMadeFor (entry_at (site_of i k h frame entry guesses)) cells.setting
made-for i k h frame entry guesses c l cells parts layout plan same = record {
  memory = same;
  blocks = plan.count;
  spans = λ n spans cell at.
      (plan.spans n spans at).cells cell
      ∙ ap (λ x. cells_at x (h.low +ℤ pos n) (may_write (program_of i) c (part_of c n)) cell) layout.extents
      ∙ ap (λ x. cells_at (extents_of (program_of i) (length i.input)) (h.low +ℤ pos n) (may_write (program_of i) x (part_of x n)) cell) (sym (construct-is i k c parts.at));
}

-- a plan of a layout is one that cells can be made of
pub ascends : (i : InstanceValue) (c : Construct) (l : LayoutValue) (low : ℤ) (blocks size : ℕ) (plan : List (List Span)) → IsPlanOf (program_of i) c l.extents l.cells low blocks plan → l.cells ≡ size → IsAscendingPlan plan size
ascends i c l low blocks size plan p same = record {
  ascending = λ n spans at. (p.spans n spans at).ascending;
  disjoint = p.disjoint;
  within = λ n spans cell at inside. subst (λ x. cell < x) same (p.within n spans cell at inside);
}

-- ---- tickets

pub fresh-first : (s : Site) (k : CellsValue) (blocks : List ChainBlock) (frame : List ℤ) (n : ℕ) (t : Ticket) → IsFirstTicket (new_lane k n) s.low blocks frame n t
    → ((b : ChainBlock) → slice_get blocks n ≡ Some b → IsListed s 0 n b) → n < s.blocks → length frame ≡ frame_size (program s.program) → s.slots ≡ main_slots (program s.program) frame
    → IsFresh (entry_at s) (guess_at s) k t
fresh-first s k blocks frame n t is listed low size slots =
    let e = entry_at s in
    let b = is.carried in
    let l = listed b.0 b.1 in
    record {
      at = record {
        low = omega (arith, low, is.block);
        number = is.number ∙ ap (λ m. s.low +ℤ pos m) (sym is.block);
        lane = (ap (λ (x : LaneValue). x.table) is.own_lane, ap (λ (x : LaneValue). x.setting) is.own_lane);
        frame = ap length is.own_frame ∙ size;
        slots = subst (λ x. AgreeOutside e.construct (part_of e.construct t.block) x s.slots) (slots ∙ ap (main_slots (program s.program)) (sym is.own_frame)) (record { slot_count = refl; slots = λ slot not. refl });
      };
      ready = first is.attempt (b.2 ∙ l.first (omega arith) ∙ ap (begins_at e (guess_at s)) (sym is.block)) (ap (λ (x : LaneValue). events x.log) is.own_lane);
    }

-- ---- the chain with its cells and tickets

pub started : (a : Inside) (v : ChainValue) (s : Site) (w : WardenValue) (m : ℕ) (cells : CellsValue) (frame : List ℤ) (tickets : List Ticket) → IsKept a → chain_value a ≡ v → v ≡ begun s w → w ≡ new_warden cells m
    → AreFirstTickets cells s.low a.validation.blocks.items frame (length a.validation.blocks.items) tickets
    → length frame ≡ frame_size (program s.program) → s.slots ≡ main_slots (program s.program) frame → IsStarted s v cells tickets
started a v s w m cells frame tickets h is new warden are size slots =
    let its : cells ≡ chain_cells v = sym (ap chain_cells new ∙ ap (λ (x : WardenValue). let k : CellsValue = record { table = x.table; setting = x.setting } in k) warden) in
    let inside : cells_inside a ≡ cells = ap chain_cells is ∙ sym its in
    let site : a.site.value ≡ s = ap (λ (x : ChainValue). x.site) is ∙ ap (λ (x : ChainValue). x.site) new in
    let ground : IsGround s cells = subst (λ (x : Site). IsGround x cells) site (subst (IsGround a.site.value) inside h.ground) in
    let none : a.validation.count ≡ 0 = sym (next-is a v h is) ∙ ap next_block new in
    let many : length a.validation.blocks.items ≡ s.blocks = h.size ∙ h.stands.blocks ∙ ap (λ (x : Site). x.blocks) site in
    let listed : (n : ℕ) (b : ChainBlock) → slice_get a.validation.blocks.items n ≡ Some b → IsListed s 0 n b
    = λ n b at. subst (λ (x : Site). IsListed x 0 n b) site (subst (λ k. IsListed a.site.value k n b) none (h.listed n b at)) in
    let blocks-of : length cells.setting.plan ≡ s.blocks = ground.made.blocks in
    record {
      chain = new ∙ ap (begun s) (sym (ap (λ (x : ChainValue). x.warden) new));
      its_cells = its;
      ground = ground;
      flags = ap (λ (x : ChainValue). x.warden.view.flags) new ∙ ap (λ (x : WardenValue). x.view.flags) warden ∙ ap (λ k. replicate k 0) blocks-of;
      count = are.size ∙ many;
      blocks = λ n t at. let f = are.each n t at in (f.block, f.attempt);
      fresh = λ n t at.
          let within = index-within tickets n t at in
          let all = are.size in
          fresh-first s cells a.validation.blocks.items frame n t (are.each n t at) (λ b here. listed n b here) (omega (arith, within, all, many)) size slots;
    }
