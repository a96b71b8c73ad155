-- Ok tables and models within the limits are the same thing: an accepted table is the encoding of exactly one model, its own decoded one, and the
-- table of a model is accepted and says that model.
use Rattle.std.proofs.Common.{◌≡◌, ℕ, ◌≤◌, ◌↔◌, List, length, sym, refl, ap, ◌∙◌, Ok, Err}
use Rattle.table.specs.declared.record.Frame.{Frame}
use Rattle.table.specs.declared.refusals.Refusal.{Refusal}
use Rattle.table.specs.Reading.{reading}
use Rattle.table.specs.Kept.{rows_of, order_of}
use Rattle.table.specs.Model.{Model, WithinLimits}
use Rattle.table.specs.Encoding.{IsBytes, encode, frame_of, model_of, StandsFor}
use Rattle.table.proofs.Accepted.{accepted_keeps, same_frame}
use Rattle.table.proofs.Scanned.{keeps_accepted}
use Rattle.table.proofs.Written.{encode_keeps, encode-says}
use Rattle.table.proofs.Decoded.{kept_encodes, kept_within}

-- a model within the limits, whose encoding is no longer than a table may be, encodes to an accepted table
pub encode_accepted : (m : Model) → WithinLimits m → length (encode m) ≤ 32768 → reading (encode m) ≡ Ok (frame_of m)
encode_accepted m within short = keeps_accepted (encode m) (frame_of m) (encode_keeps m within short)

module _ (m : Model) (within : WithinLimits m) (short : length (encode m) ≤ 32768) (f : Frame) (e : reading (encode m) ≡ Ok f) where
  -- with whatever frame it is accepted, that frame is the model's
  pub encode_frame : f ≡ frame_of m
  encode_frame = same_frame (sym e ∙ encode_accepted m within short)

  says : model_of (encode m) f ≡ m
  says = rw encode_frame (encode-says m within)

  -- and its variables, requests, decoded rows and order are the model's
  pub encode_variables : f.variables ≡ m.variables
  unfolding model_of
  encode_variables = ap (λ (x : Model). x.variables) says

  pub encode_requests : f.requests ≡ m.requests
  unfolding model_of
  encode_requests = ap (λ (x : Model). x.requests) says

  pub encode_rows_lem : rows_of (encode m) f ≡ m.rows
  unfolding model_of
  encode_rows_lem = ap (λ (x : Model). x.rows) says

  pub encode_order_lem : order_of (encode m) f ≡ m.order
  unfolding model_of
  encode_order_lem = ap (λ (x : Model). x.order) says

-- a table that stands for a model is accepted, and says it
module _ (t : List ℕ) (m : Model) (stands : StandsFor t m) where
  pub stands_accepted : reading t ≡ Ok (frame_of m)
  stands_accepted = rw (← stands.encoded) (encode_accepted m stands.within (rw stands.encoded stands.short))

  pub stands_says : model_of t (frame_of m) ≡ m
  stands_says = rw (← stands.encoded) (encode-says m stands.within)

module _ (t : List ℕ) (f : Frame) (accepted : reading t ≡ Ok f) where
  -- whatever model an accepted table stands for is the one decoded from it
  pub only_model : (m : Model) → StandsFor t m → m ≡ model_of t f
  only_model m stands = sym (rw (same_frame (sym (stands_accepted t m stands) ∙ accepted)) at (stands_says t m stands))

  module _ (bytes : IsBytes t) where
    -- an accepted table stands for what is decoded from it
    pub accepted_stands : StandsFor t (model_of t f)
    accepted_stands =
        let kept = accepted_keeps t f accepted in
        record { within = kept_within t f bytes kept; encoded = kept_encodes t f bytes kept; short = kept.short }

    -- and its frame is that model's
    pub accepted_frame : f ≡ frame_of (model_of t f)
    accepted_frame = same_frame (sym accepted ∙ stands_accepted t (model_of t f) accepted_stands)

    -- so it stands for exactly one model
    pub exactly_one_model : (m : Model) × StandsFor t m × ((other : Model) → StandsFor t other → other ≡ m)
    exactly_one_model = (model_of t f, accepted_stands, only_model)

-- a refused table stands for no model
pub refused_stands_for_none : (t : List ℕ) (r : Refusal) (m : Model) → reading t ≡ Err r → StandsFor t m → ⊥
refused_stands_for_none t r m refused stands =
    let accepted = stands_accepted t m stands in cc

-- no table means two models
pub one_model : (t : List ℕ) (a b : Model) → StandsFor t a → StandsFor t b → a ≡ b
one_model t a b stands also = only_model t (frame_of b) (stands_accepted t b also) a stands ∙ stands_says t b also

-- no two accepted tables mean the same model
pub one_table :
    (t u : List ℕ) (f g : Frame) →
    IsBytes t →
    IsBytes u →
    reading t ≡ Ok f →
    reading u ≡ Ok g →
    model_of t f ≡ model_of u g →
    t ≡ u
one_table t u f g t-bytes u-bytes t-accepted u-accepted same =
    sym (accepted_stands t f t-accepted t-bytes).encoded ∙ ap encode same ∙ (accepted_stands u g u-accepted u-bytes).encoded

-- no two models have the same table
pub encode_once : (a b : Model) → WithinLimits a → WithinLimits b → length (encode a) ≤ 32768 → encode a ≡ encode b → a ≡ b
encode_once a b a-within b-within short same =
    one_model (encode a) a b (record { within = a-within; encoded = refl; short = short })
    (record { within = b-within; encoded = sym same; short = short })

-- accepted tables and models are the same thing
pub accepted_is_model : (t : List ℕ) → IsBytes t → ((f : Frame) × (reading t ≡ Ok f)) ↔ ((m : Model) × StandsFor t m)
accepted_is_model t bytes =
    (λ p. (model_of t p.0, accepted_stands t p.0 p.1 bytes), λ p. (frame_of p.0, stands_accepted t p.0 p.1))
