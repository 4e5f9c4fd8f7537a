use Rattle.std.specs.Prelude.{if◌then◌else◌, is_ok}
use Rattle.std.proofs.Common.{Bool, ◌≡◌, ◌∙◌, ◌<◌, arith, sym, ap, length, refl, Some, None, slice_get, [], ◌∷◌, ◌++◌, List, take}
use Rattle.std.proofs.lemmas.List.{length-set}
use Rattle.std.proofs.lemmas.Option.{slice_get_read}
use Rattle.spf_cells.specs.Values.{LaneValue}
use Rattle.spf_chain.proofs.Lists.{set_other}
use Rattle.spf_chain.specs.Finishing.{lanes_in}
use Rattle.spf_chain.proofs.Finishing.{lanes-more, lanes-none, take-one}
use Rattle.spf_chain.proofs.finish.lanes_of.Goals as goal

pub loop-index-preserved : goal.loop-index-preserved
loop-index-preserved c =
    let i = c.loop-index.index in
    let inv = c.loop-index.invariant in
    let low : i < length c.loop-index.homes.items = omega (arith, c.loop-index-test.true, c.len-index-end.ensures, c.args.homes.ok.0, inv.size) in
    let at : slice_get c.args.homes.items i ≡ Some None =
    sym (inv.rest i (omega arith)) ∙ slice_get_read c.loop-index.homes.items (length c.loop-index.homes.items) i c.index_mut.result.now refl low c.index_mut.ensures.value ∙ ap (λ x. Some x) (sym c.take.ensures.value ∙ c.in-None.is) in
    record {
      lanes = inv.lanes ∙ sym (ap lanes_in (take-one c.args.homes.items i None at) ∙ lanes-none (take i c.args.homes.items));
      room = inv.room;
      few = (let f = inv.few in omega (arith, f));
      size = length-set c.loop-index.homes.items i c.take.new.self ∙ inv.size;
      rest = λ n above. set_other c.loop-index.homes.items i n c.take.new.self (λ e. absurd (omega (arith, e, above))) ∙ inv.rest n (omega (arith, above));
    }

pub loop-index-preserved-in-Ok : goal.loop-index-preserved-in-Ok
loop-index-preserved-in-Ok c =
    let i = c.loop-index.index in
    let inv = c.loop-index.invariant in
    let r = c.in-Some.report in
    let low : i < length c.loop-index.homes.items = omega (arith, c.loop-index-test.true, c.len-index-end.ensures, c.args.homes.ok.0, inv.size) in
    let at : slice_get c.args.homes.items i ≡ Some (Some r) =
    sym (inv.rest i (omega arith)) ∙ slice_get_read c.loop-index.homes.items (length c.loop-index.homes.items) i c.index_mut.result.now refl low c.index_mut.ensures.value ∙ ap (λ x. Some x) (sym c.take.ensures.value ∙ c.in-Some.is) in
    record {
      lanes = c.push.ensures.items ∙ ap (λ (x : Bool). if x then c.loop-index.lanes.items ++ c.into_lane.result ∷ [] else c.loop-index.lanes.items) (ap is_ok c.in-Ok.is) ∙ ap (λ (l : LaneValue). c.loop-index.lanes.items ++ l ∷ []) c.into_lane.ensures.lane ∙ ap (λ (l : List LaneValue). l ++ r.ticket.lane ∷ []) inv.lanes
          ∙ sym (ap lanes_in (take-one c.args.homes.items i (Some r) at) ∙ lanes-more (take i c.args.homes.items) r);
      room = (let r = inv.room in let k = c.push.ensures.capacity in omega (arith, r, k));
      few = (let f = inv.few in let k = c.push.ensures.upper_bound in omega (arith, f, k));
      size = length-set c.loop-index.homes.items i c.take.new.self ∙ inv.size;
      rest = λ n above. set_other c.loop-index.homes.items i n c.take.new.self (λ e. absurd (omega (arith, e, above))) ∙ inv.rest n (omega (arith, above));
    }
