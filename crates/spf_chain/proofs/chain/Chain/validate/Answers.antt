use Rattle.std.proofs.Common.{◌≡◌, ◌∙◌, ◌≤◌, ◌++◌, arith, sym, ap, length, slice_get, subst}
use Rattle.std.proofs.lemmas.List.{length-take-le}
use Rattle.spf_speculation_entry.specs.Sites.{entry_at, guess_at}
use Rattle.spf_chain.specs.Homes.{AreHomes, known_in, log_in}
use Rattle.spf_chain.specs.Standing.{validated_rows, HasValidated, IsValidationOf, history_of}
use Rattle.spf_chain.specs.Chains.{ChainValue}
use Rattle.spf_chain.specs.Kept.{cells_inside}
use Rattle.spf_chain.proofs.Lists.{take-grown}
use Rattle.spf_chain.proofs.Keeping.{both-at, not-less}
use Rattle.std.proofs.Common.{ℕ, ◌<◌, Some}
use Rattle.spf_ticket.specs.declared.ticket.Report.{Report}
use Rattle.spf_speculation.specs.Prefixes.{PrefixesHaveRealValues}
use Rattle.spf_speculation.specs.Laws.{UnstoppedAttemptsAreWhole}
use Rattle.spf_speculation_lanes.specs.Lanes.{LanesStopNoSecondAttempt}
use Rattle.spf_chain.specs.declared.block.Settled.TheVariants.{Trapped}
use Rattle.spf_chain.specs.declared.validation.Validation.{Validation}
use Rattle.spf_chain.specs.declared.chain.Chain.TheInside.{Inside}
use Rattle.spf_chain.specs.Chains.{next_block}
use Rattle.spf_chain.specs.Kept.{chain_value, IsKept}
use Rattle.spf_chain.specs.Standing.{IsDone}
use Rattle.spf_chain.proofs.Keeping.{next-is, second-known}
use Rattle.spf_chain.proofs.chain.Chain.validate.Goals as goal

pub invariant_of-self : goal.invariant_of-self
invariant_of-self c =
    let a = c.self.inside in
    let h = c.self.invariant in
    let e = entry_at a.site.value in
    let g = guess_at a.site.value in
    let x = c.advance.new.self in
    let homes : c.deref.result.now ≡ a.homes.items = c.deref.ensures.value in
    let stands : IsValidationOf e g a.homes.items x =
    subst (λ l. AreHomes e g (cells_inside a) l → IsValidationOf e g l a.validation → IsValidationOf e g l x) homes (c.advance.ensures.stands e g (cells_inside a) h.ground.entry) h.homes h.stands in
    let grown = c.advance.ensures.grown in
    record {
      ground = h.ground;
      flags = h.flags;
      none_taken = h.none_taken;
      room = h.room;
      size = c.advance.ensures.size ∙ ap length homes;
      within = subst (λ l. x.count ≤ length l) homes c.advance.ensures.within;
      homes = h.homes;
      stands = stands;
      listed = λ n b at.
          let o = grown.given n b at in
          let l = h.listed n o.0 o.1 in record {
            block = o.2 ∙ l.block;
            guess = o.3 ∙ l.guess;
            first = λ above.
                let old = h.listed n b (sym (grown.rest n above) ∙ at) in
                old.first (let f = grown.further in omega (arith, f, above));
          };
      second = λ on.
          let s = h.second on in
          let still : x.count ≤ a.validation.count = not-less x.count a.validation.count (λ low. let r = stands.home a.validation.count low in both-at a.homes.items a.validation.count r.0 s.2 r.1) in
          let same : x.count ≡ a.validation.count = (let f = grown.further in omega (arith, still, f)) in
          (s.0, c.advance.ensures.stays same ∙ s.1, ap (slice_get a.homes.items) same ∙ s.2);
    }

pub returns-clause-validates : goal.returns-clause-validates
returns-clause-validates c =
    let a = c.self.inside in
    let h = c.self.invariant in
    let x = c.advance.new.self in
    let grown = c.advance.ensures.grown in
    let more = take-grown a.validation.count x.count a.validation.blocks.items x.blocks.items grown.further (omega (arith, h.within, h.size)) grown.size grown.first in
    let size : length x.blocks.items ≡ length a.homes.items = c.advance.ensures.size ∙ ap length c.deref.ensures.value in
    let within : x.count ≤ length a.homes.items = subst (λ l. x.count ≤ length l) c.deref.ensures.value c.advance.ensures.within in
    let count : length (history_of x) ≡ x.count = length-take-le x.count x.blocks.items (omega (arith, size, within)) in
    let e = entry_at a.site.value in
    let g = guess_at a.site.value in
    let homes : c.deref.result.now ≡ a.homes.items = c.deref.ensures.value in
    let stands : IsValidationOf e g a.homes.items x =
    subst (λ l. AreHomes e g (cells_inside a) l → IsValidationOf e g l a.validation → IsValidationOf e g l x) homes (c.advance.ensures.stands e g (cells_inside a) h.ground.entry) h.homes h.stands in
    record {
      same = ap (λ (w : ChainValue). let v : ChainValue = record w { history = history_of x; settled = x.settled } in v) c.self.view_is;
      more = more.0;
      grown = more.1 ∙ ap (λ (w : ChainValue). w.history ++ more.0) c.self.view_is;
      prefix = subst (λ (n : ℕ). HasValidated e g (log_in a.homes.items) n (validated_rows x.count x.blocks.items) x.settled) (sym count) stands.stands;
      done = λ v is. ap (λ n. known_in v (slice_get a.homes.items n)) count ∙ ap (λ l. known_in v (slice_get l x.count)) (sym c.deref.ensures.value) ∙ c.advance.ensures.done v is;
    }

pub returns-clause-trapped : goal.returns-clause-trapped
returns-clause-trapped c = λ trapped.
    let a = c.self.inside in
    let mine : a.validation.settled ≡ Trapped trapped.trap = ap (λ (w : ChainValue). w.settled) c.self.view_is ∙ trapped.trapped in
    ap (λ (x : Validation). let v : ChainValue = record (chain_value a) { history = history_of x; settled = x.settled } in v) (c.advance.ensures.trapped trapped.trap mine) ∙ c.self.view_is

-- the next block's second attempt is home, and yet nothing is validated
none-validated : PrefixesHaveRealValues → UnstoppedAttemptsAreWhole → LanesStopNoSecondAttempt → (a : Inside) → IsKept a → (x : Validation) → x.count ≡ a.validation.count → x.settled ≡ a.validation.settled
    → IsDone a.homes.items x.count x.settled → (r : Report) → slice_get a.homes.items a.validation.count ≡ Some (Some r) → r.ticket.attempt ≡ 2 → ⊥
none-validated real whole lanes a h x count settled done r at second =
    second-known real whole lanes a h r at second (λ v is. ap (λ n. known_in v (slice_get a.homes.items n)) (sym count) ∙ done v (settled ∙ is))

not-less-or-same : (k n : ℕ) → k ≤ n → (n ≡ k → ⊥) → k < n
not-less-or-same k n le h = grind (arith, le, h)

pub returns-clause-second : goal.returns-clause-second
returns-clause-second c = λ r at second.
    let a = c.self.inside in
    let h = c.self.invariant in
    let x = c.advance.new.self in
    let homes : c.deref.result.now ≡ a.homes.items = c.deref.ensures.value in
    let grown = c.advance.ensures.grown in
    let size : length x.blocks.items ≡ length a.homes.items = c.advance.ensures.size ∙ ap length homes in
    let within : x.count ≤ length a.homes.items = subst (λ l. x.count ≤ length l) homes c.advance.ensures.within in
    let count : length (history_of x) ≡ x.count = length-take-le x.count x.blocks.items (omega (arith, size, within)) in
    let next : next_block c.args.self.now ≡ a.validation.count = next-is a c.args.self.now h c.self.view_is in
    let here : slice_get a.homes.items a.validation.count ≡ Some (Some r) = ap (λ (w : ChainValue). slice_get w.homes a.validation.count) c.self.view_is ∙ ap (slice_get c.args.self.now.homes) (sym next) ∙ at in
    let more : a.validation.count < x.count = not-less-or-same a.validation.count x.count grown.further
    (λ same. none-validated c.prefixes_grow.ensures.real c.block_runs_are_attempts.ensures.unstopped c.lanes_make_speculative_runs.ensures.second a h x same (c.advance.ensures.stays same)
    (subst (λ l. IsDone l x.count x.settled) homes c.advance.ensures.done) r here second) in
    omega (arith, more, next, count)
