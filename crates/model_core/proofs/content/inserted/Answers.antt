use Rattle.std.proofs.Common.{◌≡◌, ◌≤◌, ap, ap₂, sym, ◌∙◌, length, arith}
use Rattle.std.specs.List.{insert}
use Rattle.std.proofs.lemmas.List.Sums.{prefix_len-le-length}
use Rattle.model_core.proofs.ContentLaws.{place_of, inserted_at}
use Rattle.model_core.proofs.content.inserted.Goals as goal

pub insert-requires : goal.insert-requires
insert-requires c =
    let within : c.place_among-place.result ≤ length c.as_slice.result.now = rw c.place_among-place.ensures (prefix_len-le-length _ c.as_slice.result.now) in
    omega (arith, within, ap length c.as_slice.ensures.value)

pub returns : goal.returns
returns c =
    let tokens : c.into_vec-tokens.result.items ≡ c.args.content = c.into_vec-tokens.ensures in
    let place : c.place_among-place.result ≡ place_of c.args.token c.args.content = c.place_among-place.ensures ∙ ap (place_of c.args.token) (c.as_slice.ensures.value ∙ tokens) in
    c.from_vec.ensures ∙ c.in_ok-insert.ensures.items ∙ ap₂ (λ xs n. insert xs n c.args.token) tokens place ∙ sym (inserted_at c.args.token c.args.content)
