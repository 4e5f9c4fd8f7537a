use Rattle.std.proofs.Common.{rules, sym, ap, ◌∙◌, w64, to_z, FitsSigned}
use Rattle.std.proofs.lemmas.Bool.Decides.{Decides-int_eq}
use Rattle.std.proofs.lemmas.Int.{to_z-of_z}
use Rattle.spf_effects_walk.proofs.Sweeping.{not_between, between}
use Rattle.spf_effects_walk.proofs.sweeps.turns_between.Goals as goal

pub returns-in_err-last-in-Known-Known : goal.returns-in_err-last-in-Known-Known
returns-in_err-last-in-Known-Known c =
    let f : FitsSigned w64 c.in-Known-Known.factor = search rules in
    let g : FitsSigned w64 c.in-Known-Known.other_factor = search rules in
    let l : FitsSigned w64 c.in-Known-Known.low = search rules in
    let h : FitsSigned w64 c.in-Known-Known.high = search rules in
    let m : FitsSigned w64 c.in-Known-Known.end_low = search rules in
    let i : FitsSigned w64 c.in-Known-Known.end_high = search rules in
    let none = rw (to_z-of_z w64 c.in-Known-Known.low l, to_z-of_z w64 c.in-Known-Known.high h, to_z-of_z w64 c.in-Known-Known.end_low m, to_z-of_z w64 c.in-Known-Known.end_high i) at (sym c.last_of_one.ensures ∙ c.in_err-last-in-Known-Known.was {u = tt}) in
    let same = (Decides-int_eq c.in-Known-Known.factor c.in-Known-Known.other_factor).1 (sym (to_z-of_z w64 c.in-Known-Known.factor f) ∙ ap (to_z w64) c.if-factor-other_factor.false ∙ to_z-of_z w64 c.in-Known-Known.other_factor g) in
    rw (c.from_residual.ensures, c.in-Known-Known.is-0, c.in-Known-Known.is-1)
    (not_between c.in-Known-Known.factor c.in-Known-Known.low c.in-Known-Known.high c.in-Known-Known.other_factor c.in-Known-Known.end_low c.in-Known-Known.end_high same none)

pub returns-in_ok-last-in-Known-Known : goal.returns-in_ok-last-in-Known-Known
returns-in_ok-last-in-Known-Known c =
    let f : FitsSigned w64 c.in-Known-Known.factor = search rules in
    let g : FitsSigned w64 c.in-Known-Known.other_factor = search rules in
    let l : FitsSigned w64 c.in-Known-Known.low = search rules in
    let h : FitsSigned w64 c.in-Known-Known.high = search rules in
    let m : FitsSigned w64 c.in-Known-Known.end_low = search rules in
    let i : FitsSigned w64 c.in-Known-Known.end_high = search rules in
    let e : FitsSigned w64 c.in_ok-last-in-Known-Known.last = search rules in
    let some = rw (to_z-of_z w64 c.in-Known-Known.low l, to_z-of_z w64 c.in-Known-Known.high h, to_z-of_z w64 c.in-Known-Known.end_low m, to_z-of_z w64 c.in-Known-Known.end_high i) at (sym c.last_of_one.ensures ∙ c.in_ok-last-in-Known-Known.was {u = tt}) in
    let same = (Decides-int_eq c.in-Known-Known.factor c.in-Known-Known.other_factor).1 (sym (to_z-of_z w64 c.in-Known-Known.factor f) ∙ ap (to_z w64) c.if-factor-other_factor.false ∙ to_z-of_z w64 c.in-Known-Known.other_factor g) in
    rw (to_z-of_z w64 c.in-Known-Known.factor f, to_z-of_z w64 c.in-Known-Known.low l, to_z-of_z w64 c.in_ok-last-in-Known-Known.last e, c.in-Known-Known.is-0, c.in-Known-Known.is-1)
    (between c.in-Known-Known.factor c.in-Known-Known.low c.in-Known-Known.high c.in-Known-Known.other_factor c.in-Known-Known.end_low c.in-Known-Known.end_high c.in_ok-last-in-Known-Known.last same some)
