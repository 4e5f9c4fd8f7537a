use Rattle.std.proofs.Common.{rules, ◌≡◌, ◌∙◌, [], ◌∷◌, ◌++◌, codes, ap, sym, subst, map, drop, string_bytes, ◌+◌, ◌*◌}
use Rattle.std.specs.List.{drop-map}
use Rattle.std.proofs.lemmas.List.{map-append, length-map}
use Rattle.spf_cli_host_words.specs.HostWords.{AskFor, EndPairs, NextPair}
use Rattle.spf_cli_host_words.specs.Seen.{seen_kind}
use Rattle.spf_cli_host_words.proofs.Pairs.{says-only, says-nothing, two-more, ask-more, one-longer}
use Rattle.spf_cli_host_words.proofs.host_words.read_hosts.Goals as goal

pub returns-in_err-kind-clause-refused : goal.returns-in_err-kind-clause-refused
returns-in_err-kind-clause-refused c = λ _. says-nothing _ _ _ c.loop-kinds.invariant.pairs (search (rules, c.in_err-kind.ensures.broken))

pub loop-kinds-preserved : goal.loop-kinds-preserved
loop-kinds-preserved c =
    let next : NextPair (map string_bytes (drop c.loop-kinds.rest c.args.words.now)) (seen_kind c.in-Some.kind) = search (rules, c.in_ok-kind.ensures.next) in
    let two = two-more string_bytes c.args.words.now c.loop-kinds.rest (codes "--host") next.text next.others next.words_are in
    let items = c.in_ok-push.ensures.items in
    let asked = ask-more (map string_bytes c.args.words.now) (map seen_kind c.loop-kinds.kinds.items) (map string_bytes (drop c.loop-kinds.rest c.args.words.now)) (seen_kind c.in-Some.kind) next c.loop-kinds.invariant.pairs in
    record {
      within = two.0;
      pairs = subst (λ kinds. AskFor (map string_bytes c.args.words.now) kinds (map string_bytes (drop (c.loop-kinds.rest + 2) c.args.words.now)))
          (sym (ap (map seen_kind) items ∙ map-append seen_kind c.loop-kinds.kinds.items (c.in-Some.kind ∷ [])))
          (subst (AskFor (map string_bytes c.args.words.now) (map seen_kind c.loop-kinds.kinds.items ++ seen_kind c.in-Some.kind ∷ [])) two.1 asked);
      count = one-longer c.loop-kinds.kinds.items c.push.new.self.items c.in-Some.kind c.loop-kinds.rest items c.loop-kinds.invariant.count;
    }

pub returns-clause-says : goal.returns-clause-says
returns-clause-says c =
    let from : drop c.loop-kinds.rest (map string_bytes c.args.words.now) ≡ map string_bytes (drop c.loop-kinds.rest c.args.words.now) = drop-map string_bytes c.loop-kinds.rest c.args.words.now in
    says-only (map string_bytes c.args.words.now) (map seen_kind c.loop-kinds.kinds.items) c.loop-kinds.rest
    (subst (AskFor (map string_bytes c.args.words.now) (map seen_kind c.loop-kinds.kinds.items)) (sym from) c.loop-kinds.invariant.pairs)
    (c.loop-kinds.invariant.count ∙ ap (λ n. 2 * n) (sym (length-map c.loop-kinds.kinds.items seen_kind)))
    (subst EndPairs (sym from) (search (rules, c.in_ok-kind.ensures.next)))
