-- Which limits has the socket of a link?
use Rattle.std.specs.Prelude.{false}
use Rattle.std.specs.declared.option.Option.TheVariants.{Some}
use Rattle.tungstenite.specs.declared.protocol.WebSocketConfig.{WebSocketConfig}
use Rattle.hb_socket.specs.declared.ws_link.TheConstants.{MESSAGE_LIMIT, OUTPUT_LIMIT, READ_LEN}

-- no longer message and no longer frame is read, and no more output may wait
abbrev pub link_limits : WebSocketConfig
link_limits =
    record {
      read_buffer_size = READ_LEN;
      write_buffer_size = 0;
      max_write_buffer_size = OUTPUT_LIMIT;
      max_message_size = Some MESSAGE_LIMIT;
      max_frame_size = Some MESSAGE_LIMIT;
      accept_unmasked_frames = false;
    }
