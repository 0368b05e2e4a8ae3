-- The table of bench points: each is what the rules compute.
use mathlib.Core.Path.{◌≡◌, refl}
use mathlib.Core.Bool.{true, false}
use mathlib.Core.List.{[], ◌∷◌, ◌++◌}
use Rattle.event.specs.Event.{shape_of}
use Rattle.event.specs.Listing.{listing_sources, listing_heads, listing_values}
use Rattle.pic_source.specs.Ranks.{mirror}
use Rattle.pic_source.specs.ClosedForm.{closed_form}
use Rattle.pic_source.specs.Sources.{is_pending}
use Rattle.pic_comparator.specs.Comparator.{entry_of, better_of}
use Rattle.pic_comparator.specs.Trees.{passing, halves_to}
use Rattle.pic.specs.Sources.{winner_to, is_eligible, higher_of, difference_of}
use Rattle.pic.specs.Sound.{source_sound}
use Rattle.pic.specs.Sound as sound
use Rattle.pic.specs.Calls as calls
use Rattle.pic_bits.specs.Bits.{join_of, word_to}
use Rattle.pic_registers.specs.Words.{places_to}
use Rattle.pic_registers.specs.Registers.{read_of, written_of}
use Rattle.pic_registers.specs.Offsets.{source_register, page_register, offset_refusal}
use Rattle.pic_registers.specs.Calls as registers
use Rattle.pic_csrs.specs.Addresses.{csr_at}
use Rattle.pic_csrs.specs.Values.{csr_value, csr_written}
use Rattle.pic_csrs.specs.Calls as csrs
use Rattle.counters_timers.specs.Timers as timers
use Rattle.counters_errors.specs.Errors as errors
use Rattle.counters.specs.Whole as whole
use Rattle.counters.specs.Csrs as counters
use Rattle.handlers_stack.specs.Stacks.{handler_sound, below_of, handlers_sound, level_of}
use Rattle.handlers_service.specs.Sound as held
use Rattle.handlers_service.specs.Events as service
use Rattle.handlers.specs.Machines.{power_on_of, sound_of}
use Rattle.handlers.specs.Service.{sample_event, load_event, store_event, csr_read_event, controller_write, csr_write_event, take_event, open_event, chain_event, return_event, set_mask_event, clock_event, error_event, look_event, commit_event, event_of, sound_step_of}
use Rattle.handlers.specs.Calls.{clock_of, error_of, look_of, commit_of, step_of, margin_answer}
use Rattle.pic_laws.proofs.Sources.{field-15-never}
use Rattle.handlers_laws.proofs.Ranks.{field-kept, meipl-stored}
use Rattle.claims.specs.Play.{end_of, each_of}
use Rattle.digits.specs.Digits.{digits_to}
use Rattle.record.specs.Words.{words_of, bytes_of_words}
use Rattle.record.specs.Record.{record_of}
use Rattle.record.specs.Questions.{write_shape_of, walk_from, read_verdict, write_verdict}
use Rattle.digits.specs.Ascii.{ascii}
use Rattle.playback.specs.Print.{event_lines, print_of, compact_print_of, print_within}
use Rattle.bench_points.specs.Points.{Points, Plays, Holds, after, handler, listing-text, fifteen-up, fifteen-down, fifteen-handlers, three-fields, high-first, low_first, both-back, with-meicurpl, erring-up, erring-down, ◌answers◌, csr_read, commit, meihap, stale, old-k10, old-k10-text}

-- To unfold this is to unfold every rule.
rules : Unit {0}
unfolding print_within event_lines ascii digits_to read_verdict write_verdict write_shape_of walk_from words_of bytes_of_words end_of each_of step_of sound_step_of event_of sample_event load_event store_event csr_read_event controller_write csr_write_event take_event open_event chain_event return_event set_mask_event clock_event clock_of error_event error_of look_event look_of commit_event commit_of margin_answer sound_of held.sound_of service.take_of service.open_of service.chain_of service.return_of service.set_mask_of service.look_of service.commit_of handlers_sound handler_sound below_of level_of power_on_of shape_of calls.power_on_of calls.source_count calls.priority_order calls.current_rank calls.set_current calls.meihap_of calls.capture_of calls.look_of registers.sample_of registers.load_of registers.store_of csrs.csr_read_of csrs.csr_write_of sound.sound_of sound.sources_sound source_sound is_pending is_eligible entry_of better_of winner_to passing halves_to higher_of difference_of join_of word_to places_to source_register page_register offset_refusal read_of written_of csr_at csr_value csr_written mirror closed_form timers.timer_at timers.with_timer timers.reset_timers timers.timer_sound timers.timers_sound timers.next_count timers.clock_of errors.held_of errors.error_sound errors.counted errors.selected_bit errors.error_at errors.with_error errors.reset_errors errors.errors_sound errors.error_of whole.sound_of counters.csr_of counters.csr_at counters.csr_value counters.csr_written
rules = tt

-- The whole print and the long list apart from the table, since what one declaration may compute is limited.
listing-print : print_of (record_of listing_sources listing_heads listing_values) ≡ ascii listing-text
unfolding rules
listing-print = refl

fifteen : Plays 17 (fifteen-up ++ fifteen-down)
unfolding rules
fifteen = (refl, refl)

fifteen-up-held : Holds (after 17 fifteen-up) 15 fifteen-handlers 15
unfolding rules
fifteen-up-held = refl

fifteen-down-held : Holds (after 17 (fifteen-up ++ fifteen-down)) 0 [] 0
unfolding rules
fifteen-down-held = refl

compact-listing : compact_print_of (record_of listing_sources listing_heads listing_values) ≡ ascii listing-text
unfolding rules
compact-listing = refl

fields-nested : Plays 4 (three-fields ++ high-first ++ low_first ++ both-back)
unfolding rules
fields-nested = (refl, refl)

fields-nested-up : Holds (after 4 (three-fields ++ high-first ++ low_first)) 2 (handler 1 12 8 1 ∷ handler 3 14 12 1 ∷ []) 14
unfolding rules
fields-nested-up = refl

fields-nested-down : Holds (after 4 (three-fields ++ high-first ++ low_first ++ both-back)) 1 (handler 2 12 7 0 ∷ []) 7
unfolding rules
fields-nested-down = refl

fields-sound : sound_of (with-meicurpl (after 4 (three-fields ++ high-first ++ low_first)) 1) ≡ true
unfolding rules
fields-sound = refl

fields-unsound : sound_of (with-meicurpl (after 4 (three-fields ++ high-first ++ low_first)) 14) ≡ false
unfolding rules
fields-unsound = refl

commits-stale : Plays 4 (stale ++ (commit 2 answers 8 ∷ csr_read meihap answers 8 ∷ []))
unfolding rules
commits-stale = (refl, refl)

errors-nested : Plays 4 (erring-up ++ erring-down)
unfolding rules
errors-nested = (refl, refl)

retired-print : print_of old-k10 ≡ ascii old-k10-text
unfolding rules
retired-print = refl

pub points : Points
unfolding rules
points =
    record {
      k1 = (refl, refl);
      k1-rank = refl;
      k2 = (refl, refl);
      k2-winner = refl;
      k2-never = λ m s. field-15-never m.controller s;
      k2-stored = meipl-stored;
      k2-kept = field-kept;
      k2-back = (refl, refl);
      k3-tie = refl;
      k3-tie-taken = (refl, refl);
      k3-higher = refl;
      k3-higher-taken = (refl, refl);
      k3-tree = refl;
      k3-tree-higher = refl;
      k3-tree-reversed = refl;
      k3-to-the-right = refl;
      k3-to-the-left = refl;
      k3-padded = refl;
      k3-out-of-order = refl;
      tree-of-five = refl;
      tree-of-none = refl;
      rank-0-stopped = refl;
      rank-0-stays = refl;
      k4-at = refl;
      k4-refused = (refl, refl);
      k4-below = refl;
      k4-taken = (refl, refl);
      k4-held = refl;
      k4-above = refl;
      k5 = (refl, refl);
      k5-up = (refl, refl);
      k6 = (refl, refl);
      k7 = (refl, refl);
      k7-drops = refl;
      k8 = (refl, refl);
      k9 = (refl, refl);
      k9-claim = refl;
      k10 = (refl, refl);
      k10-winner = refl;
      k10-margin = refl;
      k10-held = refl;
      k10-served = (refl, refl);
      k10-served-held = refl;
      k10-looked = (refl, refl);
      k10-looked-held = refl;
      k10-committed = (refl, refl);
      k10-committed-held = refl;
      refused-9 = (refl, refl);
      refused-13 = (refl, refl);
      refused-14-18 = (refl, refl);
      refused-20-21 = (refl, refl);
      polarity-1 = (refl, refl);
      polarity-sets-the-latch = (refl, refl);
      margin-most = refl;
      margin-at-threshold = refl;
      margin-at-current = refl;
      margin-none = refl;
      margin-least-threshold = refl;
      margin-least-current = refl;
      listing-answers = refl;
      listing-refusals = refl;
      listing-held = refl;
      listing-margin = refl;
      listing-print = listing-print;
      print-refused = refl;
      print-of-nothing = refl;
      print-below = refl;
      fifteen = fifteen;
      fifteen-up-held = fifteen-up-held;
      fifteen-down-held = fifteen-down-held;
      fifteen-chainings = refl;
      timers-reset = (refl, refl);
      timers-at-bound = (refl, refl);
      timers-disabled = (refl, refl);
      timers-both = (refl, refl);
      timers-highest = (refl, refl);
      timers-unused = (refl, refl);
      timers-sound = refl;
      timers-unsound = refl;
      timers-nested = (refl, refl);
      timers-nested-up = refl;
      timers-nested-down = refl;
      mirror-0 = refl;
      mirror-1 = refl;
      mirror-past = refl;
      mirror-ranks = refl;
      mirror-meipl = (refl, refl);
      mirror-csrs = (refl, refl);
      compact-around = refl;
      board-around = refl;
      compact-1 = refl;
      compact-6 = refl;
      compact-listing = compact-listing;
      compact-print-22 = refl;
      compact-print-23 = refl;
      fields-power-on = (refl, refl);
      fields-power-on-margin = refl;
      fields-margin = refl;
      fields-captured = (refl, refl);
      fields-nested = fields-nested;
      fields-winner-0 = refl;
      fields-winner-1 = refl;
      fields-nested-up = fields-nested-up;
      fields-nested-down = fields-nested-down;
      fields-sound = fields-sound;
      fields-unsound = fields-unsound;
      fields-print = refl;
      errors-reset = (refl, refl);
      errors-each = (refl, refl);
      errors-and-clocks = (refl, refl);
      errors-held = refl;
      errors-written = (refl, refl);
      errors-again = (refl, refl);
      errors-wrap = (refl, refl);
      errors-wrap-0 = (refl, refl);
      errors-26 = (refl, refl);
      errors-25 = (refl, refl);
      errors-questions = (refl, refl);
      errors-read = refl;
      errors-read-7 = refl;
      errors-print = refl;
      errors-sound = refl;
      errors-unsound = refl;
      errors-nested = errors-nested;
      errors-nested-up = refl;
      errors-nested-down = refl;
      commits-stale = commits-stale;
      commits-wrong = (refl, refl);
      commits-wrong-held = refl;
      commits-lower = (refl, refl);
      commits-higher = (refl, refl);
      commits-questions = (refl, refl);
      commits-own = (refl, refl);
      commits-equals = (refl, refl);
      commits-read = refl;
      commits-read-7 = refl;
      commits-print = refl;
      looks-unsound = refl;
      commits-unsound = refl;
      retired-27 = refl;
      retired-before-7 = refl;
      retired-after-7 = refl;
      retired-after-6 = refl;
      retired-after-5 = refl;
      retired-others = refl;
      retired-k10 = refl;
      retired-k10-committed = refl;
      retired-read = refl;
      retired-read-7 = refl;
      retired-print = retired-print;
    }
