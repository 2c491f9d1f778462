-- A text goes to an outlet piece by piece.
use Rattle.std.proofs.Common.{ℕ, ◌≡◌, refl, List, [], ◌++◌, append_assoc, append-nil, ◌∙◌, ap, subst, sym}
use Rattle.fmp_engine.specs.Outlets.{Given, GivenFront}

module _ {T : Type 0} (gave : T → T → List ℕ → Type 0) where
  -- nothing was given, and all is left
  pub given_nothing : (a : T) (whole : List ℕ) → gave a a [] → Given gave a a whole whole
  given_nothing a whole h = record { front = []; is_given = h; whole_is = refl }

  -- all was given
  pub given_all : (a b : T) (piece whole : List ℕ) → piece ≡ whole → gave a b piece → Given gave a b [] whole
  given_all a b piece whole same h = record {
    front = piece;
    is_given = h;
    whole_is = sym same ∙ sym (append-nil
        piece);
  }

  -- what is left, said otherwise
  pub left_is : (a b : T) (left left_too whole : List ℕ) → left ≡ left_too → Given gave a b left whole
      → Given gave a b left_too whole
  left_is a b left left_too whole same h = subst (λ (xs : List ℕ). Given gave a b xs whole) same h

  -- the whole, said otherwise
  pub whole_is_too : (a b : T) (left whole whole_too : List ℕ) → whole ≡ whole_too → Given gave a b left whole
      → Given gave a b left whole_too
  whole_is_too a b left whole whole_too same h = subst (λ (xs : List ℕ). Given gave a b left xs) same h

  -- of a text that begins with another, what is left after that one too
  pub given_before : (a b : T) (left whole more : List ℕ) → Given gave a b left whole
      → Given gave a b (left ++ more) (whole ++ more)
  given_before a b left whole more h =
      record {
        front = h.front;
        is_given = h.is_given;
        whole_is = ap (λ (xs : List ℕ). xs ++ more) h.whole_is ∙ append_assoc h.front left more;
      }

  -- a front of a text is a front of what begins with it
  pub front_before : (a b : T) (text more whole : List ℕ) → text ++ more ≡ whole → GivenFront gave a b text
      → GivenFront gave a b whole
  front_before a b text more whole same h =
      (h.0 ++ more, whole_is_too a b (h.0 ++ more) (text ++ more) whole same (given_before a b h.0 text more h.1))

module _ {T : Type 0} (first second both : T → T → List ℕ → Type 0)
    (join : (a b c : T) (x y : List ℕ) → first a b x → second b c y → both a c (x ++ y)) where
  -- after a front, the front of what was left is given too
  pub given_through : (a b c : T) (left middle whole : List ℕ) → Given first a b middle whole
      → Given second b c left middle
      → Given both a c left whole
  given_through a b c left middle whole g h =
      record {
        front = g.front ++ h.front;
        is_given = join a b c g.front h.front g.is_given h.is_given;
        whole_is =
            g.whole_is ∙ ap (λ (xs : List ℕ). g.front ++ xs) h.whole_is ∙ sym (append_assoc g.front h.front left);
      }

  -- the same, whatever is left
  pub front_through : (a b c : T) (middle whole : List ℕ) → Given first a b middle whole
      → GivenFront second b c middle → GivenFront both a c whole
  front_through a b c middle whole g h = (h.0, given_through a b c h.0 middle whole g h.1)

-- A run: what was put together after setup (`lines`, of which `one` is left), the events (of which `two` is left), and
-- the
-- states at the end.
module _ {T : Type 0} (gave stopped : T → T → List ℕ → Type 0)
    (more : (a b c : T) (x y : List ℕ) → gave a b x → gave b c y → gave a c (x ++ y))
    (later : (a b c : T) (x y : List ℕ) → gave a b x → stopped b c y → stopped a c (x ++ y)) where
  lines_given : (a b : T) (lines one events states whole : List ℕ) → lines ++ (events ++ states) ≡ whole
      → Given gave a b one lines → Given gave a b ((one ++ events) ++ states) whole
  lines_given a b lines one events states whole same h =
      left_is gave a b (one ++ (events ++ states)) ((one ++ events) ++ states) whole
      (sym (append_assoc one events states))
      (whole_is_too gave a b (one ++ (events ++ states)) (lines ++ (events ++ states)) whole same
      (given_before gave a b one lines (events ++ states) h))

  events_given : (a b c : T) (lines one two events states whole : List ℕ) → lines ++ (events ++ states) ≡ whole
      → Given gave a b one lines → Given gave b c two (one ++ events) → Given gave a c (two ++ states) whole
  events_given a b c lines one two events states whole same h k =
      given_through gave gave gave more a b c (two ++ states) ((one ++ events) ++ states) whole
      (lines_given a b lines one events states whole same h)
      (given_before gave b c two (one ++ events) states k)

  -- all of it is given
  pub run_given : (a b c d : T) (lines one two three events states whole : List ℕ) → lines ++ (events ++ states) ≡ whole
      → Given gave a b one lines → Given gave b c two (one ++ events) → three ≡ two ++ states → Given gave c d [] three
      → Given gave a d [] whole
  run_given a b c d lines one two three events states whole same h k e last =
      given_through gave gave gave more a c d [] (two ++ states) whole
      (events_given a b c lines one two events states whole same h k)
      (whole_is_too gave c d [] three (two ++ states) e last)

  -- the outlet stopped at the lines of setup
  pub lines_stopped : (a b : T) (lines events states whole : List ℕ) → lines ++ (events ++ states) ≡ whole
      → GivenFront stopped a b lines
      → GivenFront stopped a b whole
  lines_stopped a b lines events states whole same h = front_before stopped a b lines (events ++ states) whole same h

  -- at the events
  pub events_stopped : (a b c : T) (lines one events states whole : List ℕ) → lines ++ (events ++ states) ≡ whole
      → Given gave a b one lines → GivenFront stopped b c (one ++ events) → GivenFront stopped a c whole
  events_stopped a b c lines one events states whole same h k =
      front_through gave stopped stopped later a b c ((one ++ events) ++ states) whole
      (lines_given a b lines one events states whole same h)
      (front_before stopped b c (one ++ events) states ((one ++ events) ++ states) refl k)

  -- at the end
  pub end_stopped : (a b c d : T) (lines one two three events states whole : List ℕ) → lines ++ (events ++ states)
      ≡ whole
      → Given gave a b one lines → Given gave b c two (one ++ events) → three ≡ two ++ states
      → GivenFront stopped c d three
      → GivenFront stopped a d whole
  end_stopped a b c d lines one two three events states whole same h k e last =
      front_through gave stopped stopped later a c d (two ++ states) whole
      (events_given a b c lines one two events states whole same h k)
      (subst (λ (xs : List ℕ). GivenFront stopped c d xs) e last)
