use Rattle.std.proofs.Common.{◌≡◌, ◌∙◌, ◌<◌, arith, sym, ap, length, refl, Some, None, slice_get, set, subst}
use Rattle.std.proofs.lemmas.List.{length-set}
use Rattle.std.proofs.lemmas.Option.{slice_get_read}
use Rattle.spf_chain.proofs.Lists.{set_other}
use Rattle.spf_cells.specs.Values.{CellsValue}
use Rattle.spf_speculation_entry.specs.Sites.{entry_at, guess_at}
use Rattle.spf_chain.specs.Homes.{IsHome}
use Rattle.spf_chain.specs.Chains.{ChainValue, chain_cells}
use Rattle.spf_chain.specs.Kept.{cells_inside}
use Rattle.spf_chain.proofs.Lists.{set-set}
use Rattle.spf_chain.proofs.Keeping.{over-set, homes-set, out-above, home-of, never, lawful-inside, next-is}
use Rattle.std.specs.Prelude.{◌==◌, if◌then◌else◌, ◌≤◌, false}
use Rattle.std.proofs.lemmas.Bool.Decides.{Decides-eqb}
use Rattle.spf_cells.specs.Values.{LaneValue}
use Rattle.spf_chain.proofs.Lists.{not-both}
use Rattle.spf_chain.specs.Homes.{AreHomes}
use Rattle.spf_chain.specs.Standing.{IsValidationOf}
use Rattle.spf_chain.specs.Chains.{next_block, came_home}
use Rattle.spf_chain.specs.Kept.{chain_value}
use Rattle.spf_chain.proofs.Lists.{still}
use Rattle.spf_chain.proofs.Keeping.{filed_value}
use Rattle.spf_chain.proofs.chain.Chain.come_home.Goals as goal

pub take-requires-in-Some-clause-lane : goal.take-requires-in-Some-clause-lane
take-requires-in-Some-clause-lane c =
    let a = c.self.inside in
    let h = c.self.invariant in
    let l = lawful-inside a c.args.self.now c.args.cells.now c.args.report c.self.view_is c.requires.own c.requires.lawful in
    let low : c.block-block.result < length a.homes.items = omega (arith, l.at.low, h.stands.blocks, c.block-block.ensures) in
    let at : slice_get a.homes.items c.block-block.result ≡ Some (Some c.in-Some.other) =
    slice_get_read a.homes.items (length a.homes.items) c.block-block.result c.index_mut.result.now refl low c.index_mut.ensures.value ∙ ap (λ x. Some x) (sym c.take.ensures.value ∙ c.in-Some.is) in
    let of = (h.homes c.block-block.result c.in-Some.other at).lawful.at.lane in
    let mine : cells_inside a ≡ c.args.cells.now = ap chain_cells c.self.view_is ∙ sym c.requires.own in (
      ap (λ (x : LaneValue). x.table) c.into_lane.ensures.lane ∙ of.0 ∙ ap (λ (x : CellsValue). x.table) mine,
      ap (λ (x : LaneValue). x.setting) c.into_lane.ensures.lane ∙ of.1 ∙ ap (λ (x : CellsValue). x.setting) mine,
    )

pub unreachable-requires : goal.unreachable-requires
unreachable-requires c =
    let a = c.self.inside in
    let h = c.self.invariant in
    let l = lawful-inside a c.args.self.now c.args.cells.now c.args.report c.self.view_is c.requires.own c.requires.lawful in
    let low : c.block-block.result < length a.homes.items = omega (arith, l.at.low, h.stands.blocks, c.block-block.ensures) in
    let at : slice_get a.homes.items c.block-block.result ≡ Some (Some c.in-Some.other) =
    slice_get_read a.homes.items (length a.homes.items) c.block-block.result c.index_mut.result.now refl low c.index_mut.ensures.value ∙ ap (λ x. Some x) (sym c.take.ensures.value ∙ c.in-Some.is) in
    let home = h.homes c.block-block.result c.in-Some.other at in
    never a.warden c.take-in-Some.new.self c.take-in-Some-2.new.self c.into_lane.result c.into_lane-in-Some.result h.none_taken c.take-in-Some.ensures.taken c.take-in-Some-2.ensures.taken c.take-in-Some-2.ensures.once
    (c.into_lane.ensures.block ∙ home.block ∙ c.block-block.ensures ∙ sym c.into_lane-in-Some.ensures.block)

pub invariant_of-self : goal.invariant_of-self
invariant_of-self c =
    let a = c.self.inside in
    let h = c.self.invariant in
    let e = entry_at a.site.value in
    let g = guess_at a.site.value in
    let n = c.block-block.result in
    let l = lawful-inside a c.args.self.now c.args.cells.now c.args.report c.self.view_is c.requires.own c.requires.lawful in
    let low : n < length a.homes.items = omega (arith, l.at.low, h.stands.blocks, c.block-block.ensures) in
    let at : slice_get a.homes.items n ≡ Some None =
    slice_get_read a.homes.items (length a.homes.items) n c.index_mut.result.now refl low c.index_mut.ensures.value ∙ ap (λ x. Some x) (sym c.take.ensures.value ∙ c.in-None.is) in
    let home : IsHome e g (cells_inside a) n c.args.report = home-of e g (cells_inside a) n c.args.report h.ground.made l (sym c.block-block.ensures) c.log_facts.ensures.log.consistent c.log_facts.ensures.log.turns in
    let same : set (set a.homes.items n c.take.new.self) n (Some c.args.report) ≡ set a.homes.items n (Some c.args.report) = set-set a.homes.items n c.take.new.self (Some c.args.report) in
    let size : length (set (set a.homes.items n c.take.new.self) n (Some c.args.report)) ≡ length a.homes.items = ap length same ∙ length-set a.homes.items n (Some c.args.report) in
    record {
      ground = h.ground;
      flags = subst (λ m. m ≤ length a.warden.view.flags) (sym size) h.flags;
      none_taken = h.none_taken;
      room = (h.room.0, subst (λ m. m ≤ a.room.cap) (sym size) h.room.1);
      size = h.size ∙ sym size;
      within = subst (λ m. a.validation.count ≤ m) (sym size) h.within;
      homes = subst (AreHomes e g (cells_inside a)) (sym same) (homes-set e g (cells_inside a) a.homes.items n c.args.report h.homes home);
      stands = subst (λ x. IsValidationOf e g x a.validation) (sym same) (over-set c.prefixes_grow.ensures.earlier e g a.homes.items a.validation n (Some c.args.report) h.stands (out-above e g a.homes.items a.validation n h.stands at));
      listed = h.listed;
      second = λ on.
          let x = still (n == a.validation.count) a.again (sym c.still_again-self-inside.ensures ∙ on) in
          let s = h.second x.1 in
          (s.0, s.1, ap (λ z. slice_get z a.validation.count) same ∙ set_other a.homes.items n a.validation.count (Some c.args.report) (λ is. not-both (n == a.validation.count) ((Decides-eqb n a.validation.count).1 (sym is)) x.0) ∙ s.2);
    }

pub returns-clause-state : goal.returns-clause-state
returns-clause-state c =
    let a = c.self.inside in
    let n = c.block-block.result in
    let r = c.args.report in
    let same : set (set a.homes.items n c.take.new.self) n (Some r) ≡ set a.homes.items r.ticket.block (Some r) = set-set a.homes.items n c.take.new.self (Some r) ∙ ap (λ m. set a.homes.items m (Some r)) c.block-block.ensures in
    let again : c.still_again-self-inside.result ≡ (if r.ticket.block == next_block (chain_value a) then false else a.again) =
    c.still_again-self-inside.ensures ∙ (λ t. if c.block-block.ensures t == sym (next-is a (chain_value a) c.self.invariant refl) t then false else a.again) in
    (λ t. filed_value a (same t) (again t) (c.saturating_add-self-inside.ensures t)) ∙ ap (λ (w : ChainValue). came_home w r) c.self.view_is

pub returns-clause-free : goal.returns-clause-free
returns-clause-free c =
    let a = c.self.inside in
    let h = c.self.invariant in
    let n = c.block-block.result in
    let l = lawful-inside a c.args.self.now c.args.cells.now c.args.report c.self.view_is c.requires.own c.requires.lawful in
    let low : n < length a.homes.items = omega (arith, l.at.low, h.stands.blocks, c.block-block.ensures) in
    let at : slice_get a.homes.items n ≡ Some None =
    slice_get_read a.homes.items (length a.homes.items) n c.index_mut.result.now refl low c.index_mut.ensures.value ∙ ap (λ x. Some x) (sym c.take.ensures.value ∙ c.in-None.is) in
    ap (λ (w : ChainValue). slice_get w.homes c.args.report.ticket.block) (sym c.self.view_is) ∙ ap (slice_get a.homes.items) (sym c.block-block.ensures) ∙ at
