-- What a turn does, from what its parts did.
use Rattle.std.proofs.Common.{◌≡◌, ◌≢◌, ◌⊎◌, ℕ, ◌+◌, Bool, false, refl, sym, ap, ◌∙◌, subst}
use Rattle.spf_ticket.specs.declared.ticket.Ticket.{Ticket}
use Rattle.spf_ticket.specs.declared.ticket.Report.{Report}
use Rattle.spf_chain.specs.declared.chain.Filed.{Filed}
use Rattle.spf_chain.specs.declared.chain.Filed.TheVariants.{Rerun}
use Rattle.spf_pool.specs.Hands.{HandValue, LaterHand, TookOne}
use Rattle.spf_crew.specs.declared.view.CrewSetting.{CrewSetting}
use Rattle.spf_crew.specs.declared.held.Held.{Held}
use Rattle.spf_crew.specs.declared.held.Held.TheVariants as held
use Rattle.spf_crew.specs.declared.mate.Mate.TheInside.{Inside}
use Rattle.spf_crew.specs.Rule.{expected, half_of}
use Rattle.spf_crew.specs.Values.{ChainSeatValue}
use Rattle.spf_crew.specs.Tickets.{IsFreshOf, IsLawfulOf, IsAttemptBy}
use Rattle.spf_crew.specs.Filing.{RerunsFresh, IsFiledAt, held_after, read_after}
use Rattle.spf_crew.specs.Mates.{MateValue, HasFiled, HasRerun, HasRun, IsKeptOut}
use Rattle.spf_crew.specs.Mate.{mate_value}

-- the seat after this answer
abbrev pub seat_after : ChainSeatValue → Filed → ChainSeatValue
seat_after p answer = record p { seen = expected p.seen + 2; read = read_after answer p.read }

pub has-filed : (a : Inside) (m : MateValue) (report : Report) (said answer : Filed) (p : ChainSeatValue) (h : Held) → mate_value a ≡ m → said ≡ answer
    → IsFiledAt a.seat.setting (half_of a.seat.seen) report said → p ≡ seat_after a.seat said → h ≡ held_after answer → HasFiled (record m { held = held.Report report }) (record { seat = p; hand = a.hand; held = h })
has-filed a m report said answer p h v is filed seat holds =
    subst (λ (x : MateValue). HasFiled (record x { held = held.Report report }) (record { seat = p; hand = a.hand; held = h })) v (record {
      report = report;
      before = refl;
      answer = said;
      filed = filed;
      after = λ t. record { seat = seat t; hand = a.hand; held = (holds ∙ ap held_after (sym is)) t };
    })

pub kept-out : (a : Inside) (m : MateValue) (report again : Report) (seen : ℕ) (p : ChainSeatValue) → mate_value a ≡ m → again ≡ report → (seen ≡ 16384) ⊎ (seen ≢ expected a.seat.seen) → p ≡ record a.seat { seen = seen }
    → IsKeptOut seen (record m { held = held.Report report }) (record { seat = p; hand = a.hand; held = held.Report again })
kept-out a m report again seen p v same number seat =
    subst (λ (x : MateValue). IsKeptOut seen (record x { held = held.Report report }) (record { seat = p; hand = a.hand; held = held.Report again })) v (record {
      report = report;
      before = refl;
      number = number;
      after = λ t. record { seat = seat t; hand = a.hand; held = held.Report (same t) };
    })

pub has-rerun : (a : Inside) (m m' : MateValue) (ticket : Ticket) → mate_value a ≡ m → a.held ≡ held.Ticket ticket
    → (r : Report) × IsAttemptBy a.seat.setting ticket r × (m' ≡ record { seat = a.seat; hand = a.hand; held = held.Report r }) → HasRerun m m'
has-rerun a m m' ticket v holds ran = subst (λ x. HasRerun x m') v (record { ticket = ticket; report = ran.0; before = holds; ran = ran.1; after = ran.2 })

pub has-run : (a : Inside) (m m' : MateValue) (p : ChainSeatValue) (h : HandValue CrewSetting) (ticket : Ticket) (b : Bool) → mate_value a ≡ m → a.held ≡ held.Nothing → p ≡ record a.seat { read = b } → b ≡ false
    → TookOne a.hand h → LaterHand a.hand h → (r : Report) × IsAttemptBy p.setting ticket r × (m' ≡ record { seat = p; hand = h; held = held.Report r }) → HasRun m m'
has-run a m m' p h ticket b v free seat off took later ran =
    let setting : p.setting ≡ a.seat.setting = ap (λ (x : ChainSeatValue). x.setting) seat in
    let at : MateValue = record { seat = p; hand = h; held = held.Report ran.0 } in
    let one : HasRun (mate_value a) at = record {
      ticket = ticket;
      report = ran.0;
      before = free;
      took = took;
      hand = later;
      ran = subst (λ k. IsAttemptBy k ticket ran.0) setting ran.1;
      seat = seat ∙ ap (λ r. let x : ChainSeatValue = record a.seat { read = r } in x) off;
      after = refl;
    } in
    subst (λ (x : MateValue × MateValue). HasRun x.0 x.1) (λ t. (v t, sym ran.2 t)) one

pub fresh-rerun : (k : CrewSetting) (said : Filed) (t : Ticket) → RerunsFresh k said → said ≡ Rerun t → IsFreshOf k t
fresh-rerun k said t fresh is = subst (RerunsFresh k) is fresh

pub fresh-at : (k l : CrewSetting) (t : Ticket) → IsFreshOf k t → k ≡ l → IsFreshOf l t
fresh-at k l t fresh same = subst (λ x. IsFreshOf x t) same fresh

pub lawful-at : (k l : CrewSetting) (r : Report) → IsLawfulOf k r → k ≡ l → IsLawfulOf l r
lawful-at k l r lawful same = subst (λ x. IsLawfulOf x r) same lawful
