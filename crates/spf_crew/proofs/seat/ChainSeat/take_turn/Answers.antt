use Rattle.std.proofs.Common.{true, if◌then◌else◌, sym, ap, ◌∙◌, subst}
use Rattle.spf_chain.specs.Chains.{ChainValue}
use Rattle.spf_crew.specs.Rule.{IsChainOf}
use Rattle.spf_crew.specs.Values.{CrewValue, ChainSeatValue}
use Rattle.spf_crew.specs.Filing.{read_after}
use Rattle.spf_crew.proofs.Filed.{lawful-on, one-report, still-of, filed-at, announced-ended, read-is}
use Rattle.spf_crew.proofs.seat.ChainSeat.take_turn.Goals as goal

pub file-filed-requires-clause-lawful : goal.file-filed-requires-clause-lawful
file-filed-requires-clause-lawful c =
    lawful-on c.args.self.now.setting c.args.crew.now.setting c.in-Ok.chain c.crew.inside.cells c.args.report c.requires.own.1 c.in-Ok.ensures.taken.2
    (c.crew.invariant.same ∙ ap (λ (v : CrewValue). v.setting.cells) c.crew.view_is) c.requires.lawful

pub give_chain-requires-clause-chain : goal.give_chain-requires-clause-chain
give_chain-requires-clause-chain c =
    let before : ChainValue = c.in-Ok.chain in
    let after : ChainValue = c.file-filed.new.self in
    let taken = c.in-Ok.ensures.taken in (
      one-report c.args.half before.reports after.reports c.requires.room taken.1 c.file-filed.ensures.reports,
      still-of c.args.crew.now.setting before after taken.2 c.file-filed.ensures.same,
      announced-ended before after c.args.report c.file-filed.result c.is_ended.result c.announce.new.seat.me.0.announced
          (ap (λ m. m.0.announced) c.announce.ensures.announced ∙ ap (λ m. if c.is_ended.result then true else m.0.announced) taken.0.view)
          c.is_ended.ensures.0 c.file-filed.ensures.free c.file-filed.ensures.filed,
    )

pub returns-in-Ok-clause-filed : goal.returns-in-Ok-clause-filed
returns-in-Ok-clause-filed c =
    let before : ChainValue = c.in-Ok.chain in
    let answer = c.file-filed.result in
    let b = c.is_ended.result in
    let taken = c.in-Ok.ensures.taken in
    let one = taken.0.view in
    let two = c.announce.ensures.announced in
    let three = c.give_chain.ensures.given in
    let was = c.self.inside.table_seat.me.0 in
    let v = c.self.view_is in
    let from = ap (λ m. m.0.from) three ∙ (ap (λ m. m.0.from) two ∙ (ap (λ m. m.0.from) one ∙ ap (λ (p : ChainSeatValue). p.from) v)) in
    let to = ap (λ m. m.0.to) three ∙ (ap (λ m. m.0.to) two ∙ (ap (λ m. m.0.to) one ∙ ap (λ (p : ChainSeatValue). p.to) v)) in
    let read = ap (λ m. m.0.read) three ∙ (ap (λ m. m.0.read) two ∙ (ap (λ m. if b then true else m.0.read) one ∙ (read-is b was.read answer c.is_ended.ensures.0 c.is_ended.ensures.1 ∙ ap (λ (p : ChainSeatValue). read_after answer p.read) v))) in
    let table = c.give_chain.ensures.same ∙ (c.announce.ensures.same ∙ (c.in-Ok.ensures.same ∙ ap (λ (p : ChainSeatValue). p.table) v)) in
    let setting = ap (λ (p : ChainSeatValue). p.setting) v in
    let seen = ap (λ m. m.0.seen) three in (
      filed-at c.args.self.now.setting c.args.half before c.file-filed.new.self c.args.report answer (subst (λ k. IsChainOf k before) (sym c.requires.own.1) taken.2) taken.1 c.file-filed.ensures.filed,
      (λ t. record { table = table t; setting = setting t; from = from t; to = to t; seen = seen t; read = read t }),
    )
