use Rattle.std.proofs.Common.{◌↔◌, ◌≡◌, IsTrue, Option, ℤ, pos, map, refl, ap, ◌∙◌, subst, arith}
use Rattle.std.specs.Prelude.{◌+ℤ◌}
use Rattle.std.proofs.lemmas.Int.{to_z-of_z}
use mir.Syntax.{w64}
use mir.Val.{to_z, of_z}
use Rattle.spf_ast.specs.Carried.{Carried}
use Rattle.spf_replay.specs.Reading.{event_of}
use Rattle.spf_replay.specs.Deciding.{IsLogAt}
use Rattle.spf_replay.specs.Entered.{entry_of}
use Rattle.spf_replay.proofs.EnteredBlocks.{can-run, context-of}
use Rattle.spf_replay.proofs.section.is_log.Goals as goal

pub is_real_log-requires-clause-can : goal.is_real_log-requires-clause-can
is_real_log-requires-clause-can c =
    let s = c.context_of-context.ensures in
    can-run c.args.entered.now c.args.n c.context_of-context.result _ c.requires.is s.instance s.frame s.entry refl refl c.part_of.ensures

pub is_guessed_log-requires-clause-can : goal.is_guessed_log-requires-clause-can
is_guessed_log-requires-clause-can c =
    let s = c.context_of-context.ensures in
    can-run c.args.entered.now c.args.n c.context_of-context.result _ c.requires.is s.instance s.frame s.entry refl refl c.part_of.ensures

pub returns-in-Some-clause-log : goal.returns-in-Some-clause-log
returns-in-Some-clause-log c guess g =
    let s = c.context_of-context.ensures in
    let e = entry_of c.args.entered.now in
    let number : to_z w64 (of_z w64 c.number_at.result) ≡ c.number_at.result = grind (arith, to_z-of_z) in
    let low : to_z w64 (of_z w64 e.header.low) ≡ e.header.low = grind (arith, to_z-of_z) in
    subst (λ (r : Option Carried). IsTrue c.is_real_log.result ↔ IsLogAt e guess r c.args.n (map event_of c.args.log.now)) c.in-Some.ensures
    (c.is_real_log.ensures.real e guess c.args.n
    (context-of c.args.entered.now c.args.n c.context_of-context.result _ s.instance s.frame s.entry s.spans refl c.part_of.ensures (number ∙ c.number_at.ensures ∙ ap (λ (l : ℤ). l +ℤ pos c.args.n) low)) (c.first_row.ensures guess g))

pub returns-in-None-clause-log : goal.returns-in-None-clause-log
returns-in-None-clause-log c guess g =
    let s = c.context_of-context.ensures in
    let e = entry_of c.args.entered.now in
    let number : to_z w64 (of_z w64 c.number_at.result) ≡ c.number_at.result = grind (arith, to_z-of_z) in
    let low : to_z w64 (of_z w64 e.header.low) ≡ e.header.low = grind (arith, to_z-of_z) in
    subst (λ (r : Option Carried). IsTrue c.is_guessed_log.result ↔ IsLogAt e guess r c.args.n (map event_of c.args.log.now)) c.in-None.ensures
    (c.is_guessed_log.ensures.guessed e guess c.args.n
    (context-of c.args.entered.now c.args.n c.context_of-context.result _ s.instance s.frame s.entry s.spans refl c.part_of.ensures (number ∙ c.number_at.ensures ∙ ap (λ (l : ℤ). l +ℤ pos c.args.n) low)) (c.first_row.ensures guess g))
