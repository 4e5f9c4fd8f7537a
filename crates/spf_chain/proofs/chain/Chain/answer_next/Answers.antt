use Rattle.std.proofs.Common.{◌≡◌, ◌≢◌, ◌∙◌, ◌<◌, ◌≤◌, arith, sym, ap, length, refl, Some, None, slice_get, set, subst, List, ℤ, true}
use Rattle.std.proofs.lemmas.List.{length-set}
use Rattle.std.proofs.lemmas.Option.{slice_get_read}
use Rattle.spf_chain.specs.declared.block.Settled.TheVariants.{Carried}
use Rattle.spf_chain.proofs.Lists.{set_here, not-both}
use Rattle.spf_speculation.specs.Prefixes.{PrefixesHaveRealValues}
use Rattle.spf_speculation.specs.Laws.{UnstoppedAttemptsAreWhole}
use Rattle.spf_speculation_lanes.specs.Lanes.{LanesStopNoSecondAttempt}
use Rattle.spf_speculation_entry.specs.Entry.{plain_blocks, begins_at}
use Rattle.spf_ticket.specs.declared.ticket.Report.{Report}
use Rattle.spf_ticket.specs.declared.ticket.Ticket.{Ticket}
use Rattle.spf_ticket.specs.Tickets.{IsFresh}
use Rattle.spf_speculation_entry.specs.Sites.{entry_at, guess_at}
use Rattle.spf_chain.specs.Homes.{known_in, IsHome, AreHomes}
use Rattle.spf_chain.specs.Chains.{ChainValue, chain_cells, next_block, NeedsRerun, IsAgain, sent_again}
use Rattle.spf_chain.specs.Kept.{chain_value, cells_inside, IsKept}
use Rattle.spf_chain.specs.declared.chain.Chain.TheInside.{Inside}
use Rattle.spf_chain.proofs.Keeping.{over-set, homes-set-none, next-is, next-value, wrong-home, first-home, IsFirstAt, again-fresh, ended-all, home_value}
use Rattle.spf_chain.proofs.chain.Chain.answer_next.Goals as goal

-- what holds where the next block's report is home
record AtNext (a : Inside) (real : List ℤ) (r : Report) : Type 0 where
  at : slice_get a.homes.items a.validation.count ≡ Some (Some r)
  low : a.validation.count < length a.homes.items
  value : slice_get (plain_blocks (entry_at a.site.value)).values a.validation.count ≡ Some real
  home : IsHome (entry_at a.site.value) (guess_at a.site.value) (cells_inside a) a.validation.count r
  wrong : r.ticket.carried ≢ real
  first : IsFirstAt (entry_at a.site.value) (guess_at a.site.value) a.validation.count r
  carried : a.validation.settled ≡ Carried real

at-next : PrefixesHaveRealValues → UnstoppedAttemptsAreWhole → LanesStopNoSecondAttempt → (a : Inside) (v : ChainValue) (real : List ℤ) (r : Report) → IsKept a → chain_value a ≡ v → v.settled ≡ Carried real → known_in real (slice_get v.homes (next_block v)) ≡ None
    → a.validation.count < length a.homes.items → slice_get a.homes.items a.validation.count ≡ Some (Some r) → AtNext a real r
at-next law whole second a v real r h is carried done low at =
    let mine : a.validation.settled ≡ Carried real = ap (λ (w : ChainValue). w.settled) is ∙ carried in
    let value = next-value law a h real mine low in
    let home = h.homes a.validation.count r at in
    let here : slice_get v.homes (next_block v) ≡ Some (Some r) = ap (λ (w : ChainValue). slice_get w.homes (next_block v)) (sym is) ∙ ap (slice_get a.homes.items) (next-is a v h is) ∙ at in
    let wrong = wrong-home whole second (entry_at a.site.value) (guess_at a.site.value) (cells_inside a) a.validation.count real r h.ground.raisable home value (ap (known_in real) (sym here) ∙ done) in
    record { at = at; low = low; value = value; home = home; wrong = wrong; first = first-home (entry_at a.site.value) (guess_at a.site.value) (cells_inside a) a.validation.count real r home value wrong; carried = mine }

needs-rerun : (a : Inside) (v : ChainValue) (real : List ℤ) (r : Report) → IsKept a → chain_value a ≡ v → AtNext a real r → NeedsRerun v real r
needs-rerun a v real r h is f = subst (λ w. NeedsRerun w real r) is (
    let same : next_block (chain_value a) ≡ a.validation.count = next-is a (chain_value a) h refl in record {
      home = ap (slice_get a.homes.items) same ∙ f.at;
      first = f.first.attempt;
      guess = f.first.carried ∙ ap (begins_at (entry_at a.site.value) (guess_at a.site.value)) (sym same);
      real_value = f.carried;
      wrong = f.wrong;
    })

is-again : (a : Inside) (v : ChainValue) (real : List ℤ) (r : Report) (t : Ticket) → IsKept a → chain_value a ≡ v → AtNext a real r
    → t.block ≡ r.ticket.block → t.number ≡ r.ticket.number → t.attempt ≡ 2 → t.carried ≡ real → t.lane ≡ r.ticket.lane → t.frame ≡ r.ticket.frame → IsAgain v real t
is-again a v real r t h is f block number attempt carried lane frame = record {
  fresh = subst (λ (w : ChainValue). IsFresh (entry_at w.site) (guess_at w.site) (chain_cells w) t) is
      (again-fresh (entry_at a.site.value) (guess_at a.site.value) (cells_inside a) a.validation.count real r t f.home f.first f.value f.wrong block number attempt carried lane frame);
  block = block ∙ f.home.block ∙ sym (next-is a v h is);
  attempt = attempt;
  carried = carried;
}

pub returns-then-next_block-len : goal.returns-then-next_block-len
returns-then-next_block-len c = (ended-all c.self.inside c.args.self.now c.self.invariant c.self.view_is (c.if-next_block-len.true ∙ c.len.ensures ∙ c.self.inside.homes.ok.0), refl)

pub again-requires : goal.again-requires
again-requires c =
    let a = c.self.inside in
    let h = c.self.invariant in
    let low : a.validation.count < length a.homes.items = omega (arith, c.if-next_block-len.false, c.len.ensures, a.homes.ok.0, h.within) in
    let at : slice_get a.homes.items a.validation.count ≡ Some (Some c.in-Some.report) =
    slice_get_read a.homes.items (length a.homes.items) a.validation.count c.index_mut.result.now refl low c.index_mut.ensures.value ∙ ap (λ x. Some x) (sym c.take.ensures.value ∙ c.in-Some.is) in
    let f = at-next c.prefixes_grow.ensures.real c.block_runs_are_attempts.ensures.unstopped c.lanes_make_speculative_runs.ensures.second a c.args.self.now c.args.real c.in-Some.report h c.self.view_is c.requires.carried c.requires.done low at in
    record { first = f.first.attempt }

pub invariant_of-self : goal.invariant_of-self
invariant_of-self c =
    let e = entry_at c.self.inside.site.value in
    let g = guess_at c.self.inside.site.value in
    let a = c.self.inside in
    let h = c.self.invariant in
    let low : a.validation.count < length a.homes.items = omega (arith, c.if-next_block-len.false, c.len.ensures, a.homes.ok.0, h.within) in
    let same : set a.homes.items a.validation.count c.take.new.self ≡ set a.homes.items a.validation.count None = ap (set a.homes.items a.validation.count) c.take.ensures.after in
    let size : length (set a.homes.items a.validation.count c.take.new.self) ≡ length a.homes.items = length-set a.homes.items a.validation.count c.take.new.self in
    record {
      ground = h.ground;
      flags = subst (λ m. m ≤ length a.warden.view.flags) (sym size) h.flags;
      none_taken = h.none_taken;
      room = (h.room.0, subst (λ m. m ≤ a.room.cap) (sym size) h.room.1);
      size = h.size ∙ sym size;
      within = subst (λ m. a.validation.count ≤ m) (sym size) h.within;
      homes = subst (AreHomes e g (cells_inside a)) (sym same) (homes-set-none e g (cells_inside a) a.homes.items a.validation.count h.homes);
      stands = over-set c.prefixes_grow.ensures.earlier e g a.homes.items a.validation a.validation.count c.take.new.self h.stands (omega arith);
      listed = h.listed;
      second = λ on. (c.args.real, ap (λ (w : ChainValue). w.settled) c.self.view_is ∙ c.requires.carried, ap (λ l. slice_get l a.validation.count) same ∙ set_here a.homes.items a.validation.count None low);
    }

pub unreachable-requires : goal.unreachable-requires
unreachable-requires c =
    let a = c.self.inside in
    let h = c.self.invariant in
    let low : a.validation.count < length a.homes.items = omega (arith, c.if-next_block-len.false, c.len.ensures, a.homes.ok.0, h.within) in
    let at : slice_get a.homes.items a.validation.count ≡ Some None =
    slice_get_read a.homes.items (length a.homes.items) a.validation.count c.index_mut.result.now refl low c.index_mut.ensures.value ∙ ap (λ x. Some x) (sym c.take.ensures.value ∙ c.in-None.is) in
    not-both c.is_out.result (c.is_out.ensures.1 (ap (λ l. slice_get l a.validation.count) c.deref.ensures.value ∙ at)) c.if-is_out.false

pub returns : goal.returns
returns c =
    let a = c.self.inside in
    let h = c.self.invariant in
    let low : a.validation.count < length a.homes.items = omega (arith, c.if-next_block-len.false, c.len.ensures, a.homes.ok.0, h.within) in
    let at : slice_get a.homes.items a.validation.count ≡ Some (Some c.in-Some.report) =
    slice_get_read a.homes.items (length a.homes.items) a.validation.count c.index_mut.result.now refl low c.index_mut.ensures.value ∙ ap (λ x. Some x) (sym c.take.ensures.value ∙ c.in-Some.is) in
    let f = at-next c.prefixes_grow.ensures.real c.block_runs_are_attempts.ensures.unstopped c.lanes_make_speculative_runs.ensures.second a c.args.self.now c.args.real c.in-Some.report h c.self.view_is c.requires.carried c.requires.done low at in
    let k = c.again.ensures in
    let same : set a.homes.items a.validation.count c.take.new.self ≡ set a.homes.items (next_block (chain_value a)) None =
    ap (set a.homes.items a.validation.count) c.take.ensures.after ∙ ap (λ n. set a.homes.items n None) (sym (next-is a (chain_value a) h refl)) in (
      c.args.real,
      c.in-Some.report,
      needs-rerun a c.args.self.now c.args.real c.in-Some.report h c.self.view_is f,
      is-again a c.args.self.now c.args.real c.in-Some.report c.again.result h c.self.view_is f k.block k.number k.attempt k.carried k.lane k.frame,
      (λ t. home_value a (same t) true) ∙ ap sent_again c.self.view_is,
    )
