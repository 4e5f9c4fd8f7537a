use Rattle.std.proofs.Common.{◌≡◌, ◌∙◌, ◌≤◌, arith, sym, ap, length, subst, None, slice_get, [], List, ℤ, Option, false}
use Rattle.std.specs.Prelude.{replicate}
use Rattle.std.proofs.lemmas.List.{length-replicate}
use Rattle.spf_chain.specs.declared.block.Settled.TheVariants.{Carried}
use Rattle.spf_chain.specs.Beginning.{guesses_for, unvalidated}
use Rattle.spf_ticket.specs.declared.ticket.Report.{Report}
use Rattle.spf_speculation_entry.specs.declared.site.Site.{Site}
use Rattle.spf_speculation_entry.specs.Sites.{entry_at, guess_at}
use Rattle.spf_chain.specs.Homes.{log_in}
use Rattle.spf_chain.specs.Standing.{PrefixAt}
use Rattle.spf_chain.specs.Chains.{ChainValue}
use Rattle.spf_chain.specs.Beginning.{IsBegin}
use Rattle.spf_chain.proofs.Beginning.{listed-first, none-home, length-unvalidated, length-guesses}
use Rattle.spf_chain.proofs.chain.Chain.begin.Goals as goal

pub invariant_of-result : goal.invariant_of-result
invariant_of-result c =
    let s : Site = c.args.site.value in
    let b : IsBegin s c.args.warden c.args.start c.args.guesses.now = c.requires in
    let blocks : c.in_ok-blocks.blocks.items ≡ unvalidated 0 c.args.start (guesses_for c.args.guesses.now) = c.in_ok-blocks.ensures in
    let many : length c.in_ok-blocks.blocks.items ≡ s.blocks =
    ap length blocks ∙ length-unvalidated 0 c.args.start (guesses_for c.args.guesses.now) ∙ length-guesses c.args.guesses.now ∙ b.count in
    let homes : c.in_ok-homes.homes.items ≡ replicate s.blocks None = c.in_ok-homes.ensures ∙ ap (λ n. replicate n None) (c.len.ensures ∙ c.in_ok-blocks.blocks.ok.0 ∙ many) in
    let size : length c.in_ok-homes.homes.items ≡ s.blocks = ap length homes ∙ length-replicate s.blocks None in
    record {
      ground = b.ground;
      flags = subst (λ n. n ≤ length c.args.warden.view.flags) (sym size) b.flags;
      none_taken = b.none_taken;
      room = (c.in_ok-room.ensures.items, subst (λ n. n ≤ c.in_ok-room.room.cap) (c.len-2.ensures ∙ c.in_ok-blocks.blocks.ok.0 ∙ many ∙ sym size) c.in_ok-room.ensures.capacity);
      size = many ∙ sym size;
      within = omega arith;
      homes = λ n r at. absurd (none-home s.blocks n r (ap (λ l. slice_get l n) (sym homes) ∙ at));
      stands = record {
        blocks = size;
        stands = subst (λ v. PrefixAt (entry_at s) (guess_at s) (log_in c.in_ok-homes.homes.items) 0 [] v) (sym b.same_start)
            (record { memory = s.memory; prefix = c.prefixes_grow.ensures.begin (entry_at s) (guess_at s) (log_in c.in_ok-homes.homes.items) });
        home = λ n low. absurd (omega (arith, low));
      };
      listed = λ n x at. listed-first s c.args.start c.args.guesses.now b.same_start b.same_guesses n x (ap (λ l. slice_get l n) (sym blocks) ∙ at);
      second = λ on. absurd cc;
    }

pub returns : goal.returns
returns c =
    let b = c.requires in
    let many : length c.in_ok-blocks.blocks.items ≡ c.args.site.value.blocks =
    ap length c.in_ok-blocks.ensures ∙ length-unvalidated 0 c.args.start (guesses_for c.args.guesses.now) ∙ length-guesses c.args.guesses.now ∙ b.count in
    let homes : c.in_ok-homes.homes.items ≡ replicate c.args.site.value.blocks None = c.in_ok-homes.ensures ∙ ap (λ n. replicate n None) (c.len.ensures ∙ c.in_ok-blocks.blocks.ok.0 ∙ many) in
    let value : Site → List (Option Report) → List ℤ → ChainValue = λ s hs v. record { site = s; warden = c.args.warden; homes = hs; again = false; history = []; settled = Carried v; reports = 0 } in
    λ t. value c.args.site.value (homes t) (b.same_start t)
