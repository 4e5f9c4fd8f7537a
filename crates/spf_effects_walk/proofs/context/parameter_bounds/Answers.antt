use Rattle.std.proofs.Common.{◌≡◌, ℕ, ◌+◌, suc, ◌<◌, Bool, List, [], ◌∷◌, ◌++◌, length, get_or, drop, sym, ap, ◌∙◌, arith, rules, append_assoc, length-append}
use Rattle.std.proofs.lemmas.List.{append-nil, drop_all}
use Rattle.std.proofs.Math.Seq.{drop-cons}
use Rattle.std.specs.Prelude.{pos, if◌then◌else◌}
use Rattle.std.specs.Vec.{vec_len}
use Rattle.spf_region.specs.declared.bound.Bound.{Bound}
use Rattle.spf_region.specs.declared.bound.Bound.TheVariants.{Known, Unknown}
use Rattle.spf_effects_findings.specs.Parts.{parameter_bounds}
use Rattle.spf_effects_walk.specs.SlotSets.{has_slot}
use Rattle.spf_effects_walk.proofs.context.parameter_bounds.Goals as goal

-- the bound of one more parameter
one_more : (is_assigned : ℕ → Bool) (given bounds new all : List Bound) (i slot : ℕ) (item b : Bound) → i < length given → slot ≡ i → b ≡ (if is_assigned slot then Unknown else get_or given i item) → new ≡ bounds ++ b ∷ [] → bounds ++ parameter_bounds is_assigned i (drop i given) ≡ all → new ++ parameter_bounds is_assigned (i + 1) (drop (i + 1) given) ≡ all
one_more is_assigned given bounds new all i slot item b h same is more before =
    let next : suc i ≡ i + 1 = omega arith in
    ap (λ l. l ++ parameter_bounds is_assigned (i + 1) (drop (i + 1) given)) more
    ∙ append_assoc bounds (b ∷ []) (parameter_bounds is_assigned (i + 1) (drop (i + 1) given))
    ∙ ap (λ x. bounds ++ x ∷ parameter_bounds is_assigned (i + 1) (drop (i + 1) given)) (is ∙ ap (λ s. if is_assigned s then Unknown else get_or given i item) same)
    ∙ ap (λ n. bounds ++ (if is_assigned i then Unknown else get_or given i item) ∷ parameter_bounds is_assigned n (drop n given)) (sym next)
    ∙ sym (ap (λ l. bounds ++ parameter_bounds is_assigned i l) (drop-cons given i item h))
    ∙ before

pub loop-bound-init : goal.loop-bound-init
loop-bound-init c =
    let none = c.new-bounds.ensures.items in
    (ap length none, ap (λ l. l ++ parameter_bounds (has_slot c.args.assigned.now) 0 c.args.given.now) none)

pub loop-bound-preserved : goal.loop-bound-preserved
loop-bound-preserved c =
    let bounds = c.loop-bound.bounds in
    let more = (c.in_ok-push.ensures {u = tt}).items in
    let long : vec_len bounds ≡ length bounds.items = search rules in
    let longer : length c.push.new.self.items ≡ length bounds.items + 1 = ap length more ∙ length-append bounds.items (c.parameter_bound.result ∷ []) in (
      longer ∙ ap (λ n. n + 1) c.loop-bound.invariant.0,
      one_more (has_slot c.args.assigned.now) c.args.given.now bounds.items c.push.new.self.items _ c.loop-bound.bound-index c.len-slot.result (Known (pos 0) (pos 0) (pos 0)) c.parameter_bound.result c.loop-bound-test.true (c.len-slot.ensures ∙ long ∙ c.loop-bound.invariant.0) c.parameter_bound.ensures more c.loop-bound.invariant.1,
    )

pub returns : goal.returns
returns c =
    sym (append-nil c.loop-bound.bounds.items)
    ∙ ap (λ l. c.loop-bound.bounds.items ++ parameter_bounds (has_slot c.args.assigned.now) c.loop-bound.bound-index l) (sym (drop_all c.loop-bound.bound-index c.args.given.now c.loop-bound-test.false))
    ∙ c.loop-bound.invariant.1
