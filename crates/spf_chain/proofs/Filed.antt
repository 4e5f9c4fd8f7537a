-- What stays of a chain when a report is filed, and how many reports were filed then.
use Rattle.std.proofs.Common.{◌≡◌, ap, ◌∙◌}
use Rattle.spf_ast_lemmas.specs.Counts.{one_more}
use Rattle.spf_ticket.specs.declared.ticket.Report.{Report}
use Rattle.spf_chain.specs.declared.chain.Filed.{Filed}
use Rattle.spf_chain.specs.declared.chain.Filed.TheVariants.{Rerun, Waiting, Ended}
use Rattle.spf_chain.specs.Chains.{ChainValue, chain_cells, came_home, Validates, Raises, IsFiledAnswer, IsSameChain}

-- the same site, cells, and number of reports
record Keeps (c d : ChainValue) : Type 0 where
  same : IsSameChain c d
  reports : d.reports ≡ c.reports

validated : (c d : ChainValue) → Validates c d → Keeps c d
validated c d v = record {
  same = record { site = ap (λ (x : ChainValue). x.site) v.same; cells = ap chain_cells v.same };
  reports = ap (λ (x : ChainValue). x.reports) v.same;
}

raised : (c d : ChainValue) → Raises c d → Keeps c d
raised c d r = record {
  same = record {
    site = ap (λ (x : ChainValue). x.site) r.same;
    cells = λ t. record { table = (ap (λ (x : ChainValue). x.warden.table) r.same ∙ ap (λ x. x.table) r.raised.same) t; setting = (ap (λ (x : ChainValue). x.warden.setting) r.same ∙ ap (λ x. x.setting) r.raised.same) t };
  };
  reports = ap (λ (x : ChainValue). x.reports) r.same;
}

is-kept : (c d : ChainValue) → d ≡ c → Keeps c d
is-kept c d e = record {
  same = record { site = ap (λ (x : ChainValue). x.site) e; cells = ap chain_cells e };
  reports = ap (λ (x : ChainValue). x.reports) e;
}

answered : (c d : ChainValue) (answer : Filed) → IsFiledAnswer c answer d → Keeps c d
answered c d (Rerun t) is = record {
  same = record { site = ap (λ (x : ChainValue). x.site) is.4; cells = ap chain_cells is.4 };
  reports = ap (λ (x : ChainValue). x.reports) is.4;
}
answered c d (Waiting b) is = is-kept c d is.1
answered c d Ended is = is-kept c d is.1

-- a report came home, blocks were validated, flags were raised, and this was the answer
pub record Went (before home checked flagged after : ChainValue) (r : Report) (answer : Filed) : Type 0 where
  pub came : home ≡ came_home before r
  pub validates : Validates home checked
  pub raises : Raises checked flagged
  pub answers : IsFiledAnswer flagged answer after

kept-after : (before home checked flagged after : ChainValue) (r : Report) (answer : Filed) → Went before home checked flagged after r answer → Keeps home after
kept-after before home checked flagged after r answer w =
    let v = validated home checked w.validates in
    let f = raised checked flagged w.raises in
    let a = answered flagged after answer w.answers in
    record { same = record { site = a.same.site ∙ f.same.site ∙ v.same.site; cells = a.same.cells ∙ f.same.cells ∙ v.same.cells }; reports = a.reports ∙ f.reports ∙ v.reports }

pub same-after : (before home checked flagged after : ChainValue) (r : Report) (answer : Filed) → Went before home checked flagged after r answer → IsSameChain before after
same-after before home checked flagged after r answer w =
    let k = kept-after before home checked flagged after r answer w in
    record { site = k.same.site ∙ ap (λ (x : ChainValue). x.site) w.came; cells = k.same.cells ∙ ap chain_cells w.came }

pub one-filed : (before home checked flagged after : ChainValue) (r : Report) (answer : Filed) → Went before home checked flagged after r answer → after.reports ≡ one_more before.reports
one-filed before home checked flagged after r answer w =
    (kept-after before home checked flagged after r answer w).reports ∙ ap (λ (x : ChainValue). x.reports) w.came
