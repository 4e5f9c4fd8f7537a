-- What a filed report makes of a chain of a crew.
use Rattle.std.proofs.Common.{◌≡◌, ◌⊎◌, ℕ, ◌+◌, ◌<◌, Bool, true, false, if◌then◌else◌, refl, sym, ap, ◌∙◌, subst, inl, inr, arith}
use Rattle.spf_ast_lemmas.specs.Counts.{one_more}
use Rattle.spf_ticket.specs.declared.ticket.Report.{Report}
use Rattle.spf_chain.specs.declared.chain.Filed.{Filed}
use Rattle.spf_chain.specs.declared.chain.Filed.TheVariants.{Rerun, Waiting, Ended}
use Rattle.spf_chain.specs.Chains.{ChainValue, chain_cells, HasEnded, IsFiled, IsFiledAnswer, IsSameChain, IsOut, Raises}
use Rattle.spf_speculation_entry.specs.Sites.{entry_at, guess_at}
use Rattle.spf_cells.specs.Values.{CellsValue}
use Rattle.spf_ticket.specs.declared.ticket.Ticket.{Ticket}
use Rattle.spf_ticket.specs.Tickets.{IsFresh, IsLawfulReport}
use Rattle.spf_crew.specs.declared.view.CrewSetting.{CrewSetting}
use Rattle.spf_crew.specs.Rule.{IsChainOf}
use Rattle.spf_crew.specs.Endings.{has_ended}
use Rattle.spf_crew.specs.Tickets.{IsLawfulOf}
use Rattle.spf_crew.specs.Filing.{RerunsFresh, IsFiledAt, read_after}
use Rattle.spf_crew.proofs.Endings.{ended-of, ended-is}

pub still-of : (k : CrewSetting) (before after : ChainValue) → IsChainOf k before → IsSameChain before after → IsChainOf k after
still-of k before after of same = record { site = same.site ∙ of.site; cells = same.cells ∙ of.cells }

pub one-report : (half n m : ℕ) → half < 8192 → n ≡ half → m ≡ one_more n → m ≡ half + 1
one-report half n m low is more = more ∙ (ap one_more is ∙ small half low)
  where
    small : (h : ℕ) → h < 8192 → one_more h ≡ h + 1
    small h l = omega (arith, l)

raised-site : (v w : ChainValue) → Raises v w → (w.site ≡ v.site) × (chain_cells w ≡ chain_cells v)
raised-site v w r = (
  ap (λ (x : ChainValue). x.site) r.same,
  (λ t. record { table = (ap (λ (x : ChainValue). x.warden.table) r.same ∙ ap (λ x. x.table) r.raised.same) t; setting = (ap (λ (x : ChainValue). x.warden.setting) r.same ∙ ap (λ x. x.setting) r.raised.same) t }),
)

-- the chain as the answer finds it is of the crew
raised-of : (k : CrewSetting) (before after : ChainValue) (r : Report) (answer : Filed) → IsChainOf k before → (f : IsFiled before r answer after) → IsChainOf k f.raised
raised-of k before after r answer of f =
    let s = raised-site f.validated f.raised f.raises in
    record { site = s.0 ∙ (ap (λ (x : ChainValue). x.site) f.validates.same ∙ of.site); cells = s.1 ∙ (ap chain_cells f.validates.same ∙ of.cells) }

reruns : (k : CrewSetting) (raised after : ChainValue) (answer : Filed) → IsChainOf k raised → IsFiledAnswer raised answer after → RerunsFresh k answer
reruns k raised after (Rerun t) of is =
    subst (λ s. IsFresh (entry_at s) (guess_at s) k.cells t) of.site (subst (λ c. IsFresh (entry_at raised.site) (guess_at raised.site) c t) of.cells is.3.fresh)
reruns k raised after (Waiting block) of is = tt
reruns k raised after Ended of is = tt

pub filed-at : (k : CrewSetting) (half : ℕ) (before after : ChainValue) (r : Report) (answer : Filed) → IsChainOf k before → before.reports ≡ half → IsFiled before r answer after → IsFiledAt k half r answer
filed-at k half before after r answer of count f = record {
  before = before;
  after = after;
  of = of;
  count = count;
  filed = f;
  rerun = reruns k f.raised after answer (raised-of k before after r answer of f) f.answers;
}

answered-ended : (raised after : ChainValue) (answer : Filed) → answer ≡ Ended → IsFiledAnswer raised answer after → HasEnded after
answered-ended raised after answer is said =
    let a : IsFiledAnswer raised Ended after = subst (λ x. IsFiledAnswer raised x after) is said in subst HasEnded (sym a.1) a.0

pub filed-ended : (before after : ChainValue) (r : Report) (answer : Filed) → answer ≡ Ended → IsFiled before r answer after → has_ended after ≡ true
filed-ended before after r answer is f = ended-is after (answered-ended f.raised after answer is f.answers)

-- no report is filed with a chain that has ended
pub not-ended : (before : ChainValue) (block : ℕ) → IsOut before block → has_ended before ≡ true → ⊥
not-ended before block out ended = (ended-of before ended).home block out

-- a report of this crew may be filed with a chain of it
pub lawful-on : (k crew : CrewSetting) (c : ChainValue) (cells : CellsValue) (r : Report) → k ≡ crew → IsChainOf crew c → cells ≡ crew.cells → IsLawfulOf k r → IsLawfulReport (entry_at c.site) (guess_at c.site) cells r
lawful-on k crew c cells r same of own l =
    subst (λ x. IsLawfulReport (entry_at c.site) (guess_at c.site) x r) (sym own)
    (subst (λ s. IsLawfulReport (entry_at s) (guess_at s) crew.cells r) (sym of.site) (subst (λ x. IsLawfulOf x r) same l))

-- the end is announced where it was before, or where it has come
announced-by : (b e : Bool) → (if b then true else e) ≡ true → (b ≡ true) ⊎ (e ≡ true)
announced-by true e h = inl refl
announced-by false e h = inr h

pub announced-ended : (before after : ChainValue) (r : Report) (answer : Filed) (b said : Bool) → said ≡ (if b then true else has_ended before) → (b ≡ true → answer ≡ Ended) → IsOut before r.ticket.block → IsFiled before r answer after → said ≡ true → has_ended after ≡ true
announced-ended before after r answer b said is ended out f now = elim (announced-by b (has_ended before) (sym is ∙ now)) [
  | inl here ↦ filed-ended before after r answer (ended here) f
  | inr was ↦ absurd (not-ended before r.ticket.block out was)
]

pub read-is : (b read : Bool) (answer : Filed) → (b ≡ true → answer ≡ Ended) → (answer ≡ Ended → b ≡ true) → (if b then true else read) ≡ read_after answer read
read-is true read (Rerun t) h g = absurd (rerun-not t (h refl))
  where
    rerun-not : (t : Ticket) → Rerun t ≡ Ended → ⊥
    rerun-not t e = cc
read-is true read (Waiting block) h g = absurd (waiting-not block (h refl))
  where
    waiting-not : (block : ℕ) → Waiting block ≡ Ended → ⊥
    waiting-not block e = cc
read-is true read Ended h g = refl
read-is false read (Rerun t) h g = refl
read-is false read (Waiting block) h g = refl
read-is false read Ended h g = absurd (let e = g refl in cc)
