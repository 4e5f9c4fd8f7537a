use Rattle.std.proofs.Common.{rules, ◌≡◌, [], ◌∷◌, map, codes, string_bytes, subst, sym, refl}
use Rattle.spf_cli_host_words.specs.HostWords.{Names}
use Rattle.spf_cli_host_words.specs.Seen.{seen_kind}
use Rattle.spf_cli_host_words.proofs.Pairs.{none-left}
use Rattle.spf_cli_host_words.proofs.host_words.next_kind.Goals as goal

pub returns-in_default-split_first-clause-broken : goal.returns-in_default-split_first-clause-broken
returns-in_default-split_first-clause-broken c =
    let all : c.args.words.now ≡ c.in-Some.word.now ∷ c.in-Some.others.now = search rules in
    let none : c.in-Some.others.now ≡ [] = none-left c.in-Some.others.now (search rules) in
    let host : string_bytes c.in-Some.word.now ≡ codes "--host" = search rules in
    rw (all, none) host

pub returns-in-Some-read_kind-clause-next : goal.returns-in-Some-read_kind-clause-next
returns-in-Some-read_kind-clause-next c =
    let all : c.args.words.now ≡ c.in-Some.word.now ∷ c.in-Some.others.now = search rules in
    let behind : c.in-Some.others.now ≡ c.in-Some-split_first.text.now ∷ c.in-Some-split_first.field-0-1.now = search rules in
    let host : string_bytes c.in-Some.word.now ≡ codes "--host" = search rules in
    record {
      text = string_bytes c.in-Some-split_first.text.now;
      others = map string_bytes c.in-Some-split_first.field-0-1.now;
      words_are = rw (all, behind, host) refl;
      names = subst (λ text. Names text (seen_kind c.in-Some-read_kind.kind)) c.as_str-2.ensures.value c.in-Some-read_kind.ensures;
    }

pub returns-in-None-clause-broken : goal.returns-in-None-clause-broken
returns-in-None-clause-broken c =
    let all : c.args.words.now ≡ c.in-Some.word.now ∷ c.in-Some.others.now = search rules in
    let behind : c.in-Some.others.now ≡ c.in-Some-split_first.text.now ∷ c.in-Some-split_first.field-0-1.now = search rules in
    let host : string_bytes c.in-Some.word.now ≡ codes "--host" = search rules in
    rw (all, behind) (host, λ kind names. c.in-None.ensures kind (subst (λ text. Names text kind) (sym c.as_str-2.ensures.value) names))
