-- Lists of boxes.
use Rattle.std.proofs.Common.{◌≡◌, ◌∙◌, sym, ap, ℕ, ◌+◌, ◌<◌, List, [], ◌∷◌, ◌++◌, map, take, length, slice_index_or}
use Rattle.std.proofs.lemmas.List.{map_more, map-append}
use Rattle.spf_cli_host_words.specs.Seen.{seen_kind}
use Rattle.spf_cli_host_words.specs.declared.host_words.HostKind.{HostKind}
use Rattle.spf_guess.specs.Answers.{Answers}
use Rattle.spf_cli_hosts.specs.Hosts.{answers_of}

-- boxes answer as the kinds up to an index, and one more box as the kind at this index
pub one_more : {A : Type 0} (answer : A → Answers) (boxes now : List A) (box : A) (kinds : List HostKind) (index : ℕ) (kind : HostKind)
    → index < length kinds → map answer boxes ≡ map answers_of (map seen_kind (take index kinds)) → now ≡ boxes ++ box ∷ []
    → answer box ≡ answers_of (seen_kind (slice_index_or kinds index kind))
    → map answer now ≡ map answers_of (map seen_kind (take (index + 1) kinds))
one_more answer boxes now box kinds index kind within so_far pushed answers =
    ap (map answer) pushed
    ∙ map-append answer boxes (box ∷ [])
    ∙ ap (λ x. x ++ answer box ∷ []) so_far
    ∙ ap (λ x. map answers_of (map seen_kind (take index kinds)) ++ x ∷ []) answers
    ∙ sym (map-append answers_of (map seen_kind (take index kinds)) (seen_kind (slice_index_or kinds index kind) ∷ []))
    ∙ ap (map answers_of) (sym (map_more seen_kind kinds index kind within))
