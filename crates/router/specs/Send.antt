-- Messages whose fields fit where they stand.
use Rattle.std.specs.Prelude.{◌^◌, ◌<◌, ◌≡◌, true, length}
use Rattle.serial.specs.declared.timing.Timing.{Timing}
use Rattle.message.specs.declared.version.Version.{Version}
use Rattle.message.specs.declared.version.Version.TheVariants.{Rfc6810, Rfc8210}
use Rattle.message.specs.Version.{speaks, times_told}
use Rattle.message.specs.Message.{Message, serial_notify, serial_query, cache_response, ipv4_prefix, ipv6_prefix, end_of_data, cache_reset, router_key, error_report}

-- times of four bytes each, where they are sent
abbrev pub TimesFit : Version → Timing → Type 0
TimesFit Rfc6810 t = Unit {0}
TimesFit Rfc8210 t = (t.refresh < 2 ^ 32) × (t.retry < 2 ^ 32) × (t.expire < 2 ^ 32)

-- sessions and codes have two bytes, serials and lengths four, addresses, AS numbers and key identifiers their own; all of the times is told
abbrev pub Sendable : Version → Message → Type 0
Sendable v (serial_notify session serial) = (session < 65536) × (serial < 2 ^ 32)
Sendable v (serial_query session serial) = (session < 65536) × (serial < 2 ^ 32)
Sendable v (cache_response session) = session < 65536
Sendable v (ipv4_prefix flags p m address asn) = (length address ≡ 4) × (length asn ≡ 4)
Sendable v (ipv6_prefix flags p m address asn) = (length address ≡ 16) × (length asn ≡ 4)
Sendable v (end_of_data session serial times) = (session < 65536) × (serial < 2 ^ 32) × TimesFit v times × (times_told v times ≡ times)
Sendable v cache_reset = Unit {0}
Sendable v (router_key flags identifier asn info) = (length identifier ≡ 20) × (length asn ≡ 4) × (length info < 2 ^ 31) × (speaks v 2 ≡ true)
Sendable v (error_report code enclosed text) = (code < 65536) × (length enclosed < 2 ^ 31) × (length text < 2 ^ 30)
